-- `propagation::rule_true` meets its contract. Assumes nothing.
use mathlib.Core.Path.{◌≡◌}
use mathlib.Core.Bool.{cond}
use lib.Dec.{eqb}
use Rattle.std.specs.Prelude.{Some, None}
use Rattle.propagation.specs.declared.Consequence.TheVariants.{RightTrue}
use Rattle.propagation.specs.Gates as G
use Rattle.propagation.proofs.Turns.{equal, unequal}
use Rattle.propagation.proofs.rule_true.Statement.{statement}
use Rattle.propagation.proofs.rule_true.Tie as tie

-- the first three tests failed
third : (c : tie.Else-x-eq2)
    → let a = c.args in
    G.rule_true a.x a.y ≡ cond (eqb a.y 2) (Some RightTrue) None
unfolding G.rule_true
third c = rw (unequal c.if-x-eq0.false, unequal c.if-y-eq0.false, unequal c.if-x-eq2.false)

returns : tie.Need-returns-then-x-eq0
unfolding G.rule_true
returns c = rw (equal c.if-x-eq0.true)

returns-2 : tie.Need-returns-then-y-eq0
unfolding G.rule_true
returns-2 c = rw (unequal c.if-x-eq0.false, equal c.if-y-eq0.true)

returns-3 : tie.Need-returns-then-x-eq2
unfolding G.rule_true
returns-3 c = rw (unequal c.if-x-eq0.false, unequal c.if-y-eq0.false, equal c.if-x-eq2.true)

returns-4 : tie.Need-returns-then-y-eq2
returns-4 c = rw (third c.before, equal c.if-y-eq2.true)

returns-5 : tie.Need-returns-else-y-eq2
returns-5 c = rw (third c.before, unequal c.if-y-eq2.false)

pub rule_true_spec : {M : Type 1} → statement M
rule_true_spec = tie.close (tie.spec returns returns-2 returns-3 returns-4 returns-5)
