-- `conflicts::verdict_of` meets its contract. Assumes nothing.
use borrow.Author.Tests.{eq-eqb, ne_eqb}
use Rattle.conflicts.specs.Conflicts as Cf
use Rattle.conflicts.proofs.verdict_of.Statement.{statement}
use Rattle.conflicts.proofs.verdict_of.Tie as tie

returns : tie.Need-returns-then-x-eq1
unfolding Cf.verdict_of
returns c = rw (eq-eqb _ _ c.if-x-eq1.true)

returns-2 : tie.Need-returns-then-x-eq2
unfolding Cf.verdict_of
returns-2 c = rw (ne_eqb _ _ c.if-x-eq1.false, eq-eqb _ _ c.if-x-eq2.true)

returns-3 : tie.Need-returns
unfolding Cf.verdict_of
returns-3 c = rw (ne_eqb _ _ c.if-x-eq1.false, ne_eqb _ _ c.if-x-eq2.false)

pub verdict_of_spec : {M : Type 1} → statement M
verdict_of_spec = tie.close (tie.spec returns returns-2 returns-3)
