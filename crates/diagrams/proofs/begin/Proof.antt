-- `diagrams::begin` meets its contract. Assumes nothing.
use mathlib.Core.Path.{◌≡◌, sym, ap, ◌∙◌}
use mathlib.Core.List.{List}
use Prim.Native.Nat.{ℕ, ◌+◌, ◌*◌, ◌/◌}
use borrow.Author.Rules.{rules}
use lib.ListN.{length, set}
use Rattle.diagrams.specs.States.{begun}
use Rattle.diagrams.proofs.begin.Statement.{statement}
use Rattle.diagrams.proofs.begin.Tie as tie

returns : tie.Need-returns
unfolding begun
returns c =
    let n = 4 * (length
    c.args.w.now / 16) + 6 in
    c.put-3.ensures
    ∙ ap (λ (l : List ℕ). set l n 4294967295)
    (c.put-2.ensures ∙ ap
    (λ (l : List ℕ). set l 1
    c.args.looks) (c.put.ensures ∙ ap
    (λ (l : List ℕ). set l 0 1)
    c.clear.ensures))

pub begin_spec : {M : Type 1} → statement M
begin_spec =
    tie.close
    (tie.spec (λ c. search rules) (λ c. search rules) (λ c κs. search rules) (λ c κs. search rules) (λ c κs. search rules) (λ c κs. search rules) (λ c. search rules) returns)
