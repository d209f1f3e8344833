-- `trail::backtrack` meets its contract. Assumes nothing.
use Rattle.trail.specs.Trail as S
use mathlib.Core.Path.{refl}
use borrow.Author.Rules.{rules}
use Rattle.trail.proofs.backtrack.Statement.{statement}
use Rattle.trail.proofs.backtrack.Tie as tie

returns : tie.Need-returns
unfolding S.backtracked
returns c =
    let t = c.take_back-n.ensures in
    rw (← t.count, ← c.min.ensures, ← c.min-2.ensures) (record { words = t.words; state = refl })

pub backtrack_spec : {M : Type 1} → statement M
backtrack_spec =
    tie.close (tie.spec (λ c κs. search rules) (λ c κs. search rules) (λ c κs. search rules) (λ c. search rules) returns)
