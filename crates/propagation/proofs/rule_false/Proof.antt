-- `propagation::rule_false` meets its contract. Assumes nothing.
use borrow.Author.Tests.{eq-eqb, ne_eqb}
use Rattle.propagation.specs.Gates as G
use Rattle.propagation.proofs.rule_false.Statement.{statement}
use Rattle.propagation.proofs.rule_false.Tie as tie

returns : tie.Need-returns-then-y-eq1
unfolding G.rule_false
returns c = rw (eq-eqb _ _ c.if-x-eq1.true, eq-eqb _ _ c.if-y-eq1.true)

returns-2 : tie.Need-returns-then-y-eq2
unfolding G.rule_false
returns-2 c = rw (eq-eqb _ _ c.if-x-eq1.true, ne_eqb _ _ c.if-y-eq1.false, eq-eqb _ _ c.if-y-eq2.true)

returns-3 : tie.Need-returns-else-y-eq2
unfolding G.rule_false
returns-3 c = rw (eq-eqb _ _ c.if-x-eq1.true, ne_eqb _ _ c.if-y-eq1.false, ne_eqb _ _ c.if-y-eq2.false)

returns-4 : tie.Need-returns-then-y-eq1-2
unfolding G.rule_false
returns-4 c = rw (ne_eqb _ _ c.if-x-eq1.false, eq-eqb _ _ c.if-x-eq2.true, eq-eqb _ _ c.if-y-eq1-2.true)

returns-5 : tie.Need-returns-else-y-eq1-2
unfolding G.rule_false
returns-5 c = rw (ne_eqb _ _ c.if-x-eq1.false, eq-eqb _ _ c.if-x-eq2.true, ne_eqb _ _ c.if-y-eq1-2.false)

returns-6 : tie.Need-returns
unfolding G.rule_false
returns-6 c = rw (ne_eqb _ _ c.if-x-eq1.false, ne_eqb _ _ c.if-x-eq2.false)

pub rule_false_spec : {M : Type 1} → statement M
rule_false_spec = tie.close (tie.spec returns returns-2 returns-3 returns-4 returns-5 returns-6)
