-- `conjunction::both` meets its contract. Assumes nothing.
use borrow.Author.Rules.{rules}
use Rattle.conjunction.specs.Conjunction as C
use Rattle.conjunction.proofs.both.Statement.{statement}
use Rattle.conjunction.proofs.both.Tie as tie

returns : tie.Need-returns
unfolding C.both
returns c = c.both_within.ensures

pub both_spec : {M : Type 1} → statement M
both_spec =
    tie.close
    (tie.spec (λ c κs. search rules) (λ c. search rules) returns)
