-- `propagation::rule` meets its contract. Assumes nothing.
use mathlib.Core.Path.{◌≡◌}
use mathlib.Core.Bool.{cond}
use lib.Dec.{eqb}
use Rattle.std.specs.Prelude.{Some, None}
use Rattle.propagation.specs.declared.Consequence.TheVariants.{FalseByRight, True}
use Rattle.propagation.specs.Gates as G
use Rattle.propagation.proofs.Turns.{equal, unequal}
use borrow.Author.Rules.{rules}
use Rattle.propagation.proofs.rule.Statement.{statement}
use Rattle.propagation.proofs.rule.Tie as tie

-- the first three tests failed
third : (c : tie.Else-x-eq0)
    → let a = c.args in
    G.rule a.o a.x a.y ≡ cond (eqb a.y 0) (Some FalseByRight) (cond (eqb a.x 1) (cond (eqb a.y 1) (Some True) None) None)
unfolding G.rule
third c = rw (unequal c.if-o-eq1.false, unequal c.if-o-eq0.false, unequal c.if-x-eq0.false)

returns : tie.Need-returns-then-o-eq1
unfolding G.rule
returns c = rw (equal c.if-o-eq1.true) c.rule_true.ensures

returns-2 : tie.Need-returns-then-o-eq0
unfolding G.rule
returns-2 c = rw (unequal c.if-o-eq1.false, equal c.if-o-eq0.true) c.rule_false.ensures

returns-3 : tie.Need-returns-then-x-eq0
unfolding G.rule
returns-3 c = rw (unequal c.if-o-eq1.false, unequal c.if-o-eq0.false, equal c.if-x-eq0.true)

returns-4 : tie.Need-returns-then-y-eq0
returns-4 c = rw (third c.before, equal c.if-y-eq0.true)

returns-5 : tie.Need-returns-then-y-eq1
returns-5 c =
    rw (third c.before.before.before, unequal c.if-y-eq0.false, equal c.if-x-eq1.true, equal c.if-y-eq1.true)

returns-6 : tie.Need-returns-else-y-eq1
returns-6 c =
    rw (third c.before.before.before, unequal c.if-y-eq0.false, equal c.if-x-eq1.true, unequal c.if-y-eq1.false)

returns-7 : tie.Need-returns
returns-7 c = rw (third c.before.before, unequal c.if-y-eq0.false, unequal c.if-x-eq1.false)

pub rule_spec : {M : Type 1} → statement M
rule_spec =
    tie.close
    (tie.spec (λ c κs. search rules) returns (λ c κs. search rules) returns-2 returns-3 returns-4 returns-5 returns-6 returns-7)
