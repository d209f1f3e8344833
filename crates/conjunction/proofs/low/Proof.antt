-- `conjunction::low` meets its contract. Assumes nothing.
use borrow.Author.Tests.{eq-eqb, ne_eqb}
use borrow.Author.Rules.{rules}
use Rattle.conjunction.specs.Conjunction.{low}
use Rattle.conjunction.proofs.low.Statement.{statement}
use Rattle.conjunction.proofs.low.Tie as tie

returns : tie.Need-returns-then-n-v
unfolding low
returns c = rw (eq-eqb _ _ c.if-n-v.true) c.flip.ensures

returns-2 : tie.Need-returns
unfolding low
returns-2 c = rw (ne_eqb _ _ c.if-n-v.false)

pub low_spec : {M : Type 1} → statement M
low_spec =
    tie.close
    (tie.spec (λ c κs. search rules) returns returns-2)
