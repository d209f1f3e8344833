-- `reasons::length_of` meets its contract. Assumes nothing.
use borrow.Author.Tests.{eq-eqb, ne_eqb}
use Rattle.reasons.specs.Reason as R
use borrow.Author.Rules.{rules}
use Rattle.reasons.proofs.length_of.Statement.{statement}
use Rattle.reasons.proofs.length_of.Tie as tie

returns : tie.Need-returns-then-r-eq3
unfolding R.length_of
returns c = rw (eq-eqb _ _ c.if-r-eq3.true, ← c.head.ensures)

returns-2 : tie.Need-returns-then-r-eq2
unfolding R.length_of
returns-2 c = rw (ne_eqb _ _ c.if-r-eq3.false, eq-eqb _ _ c.if-r-eq2.true)

returns-3 : tie.Need-returns-else-r-eq2
unfolding R.length_of
returns-3 c = rw (ne_eqb _ _ c.if-r-eq3.false, ne_eqb _ _ c.if-r-eq2.false)

pub length_of_spec : {M : Type 1} → statement M
length_of_spec = tie.close (tie.spec (λ c κs. search rules) returns returns-2 returns-3)
