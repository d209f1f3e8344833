-- `conjunction::high` meets its contract. Assumes nothing.
use borrow.Author.Tests.{eq-eqb, ne_eqb}
use borrow.Author.Rules.{rules}
use Rattle.conjunction.specs.Conjunction.{high}
use Rattle.conjunction.proofs.high.Statement.{statement}
use Rattle.conjunction.proofs.high.Tie as tie

returns : tie.Need-returns-then-n-v
unfolding high
returns c = rw (eq-eqb _ _ c.if-n-v.true) c.flip.ensures

returns-2 : tie.Need-returns
unfolding high
returns-2 c = rw (ne_eqb _ _ c.if-n-v.false)

pub high_spec : {M : Type 1} → statement M
high_spec =
    tie.close
    (tie.spec (λ c κs. search rules) returns returns-2)
