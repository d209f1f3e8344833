-- `freeing::copy_words` meets its contract. Assumes nothing.
use mathlib.Core.Path.{ap}
use mathlib.Core.List.{List, ◌++◌}
use Prim.Native.Nat.{ℕ}
use lib.ListN.{drop}
use Rattle.freeing.proofs.Stores.{copied-front}
use Rattle.freeing.proofs.copy_words.Goals as goal

pub returns : goal.returns
returns c =
    copied-front c.args.m.now c.args.n c.args.words.now _ c.requires.0 c.requires.1
    (ap (λ (x : List ℕ). x ++ drop c.args.n c.args.words.now) c.copy_from_slice.ensures.after)
