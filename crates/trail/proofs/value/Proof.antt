-- `trail::value` meets its contract. Assumes nothing.
use borrow.Author.Tests.{eq-eqb, le-ltb, lt-ltb, ne_eqb}
use Rattle.trail.specs.Trail as S
use borrow.Author.Rules.{rules}
use Rattle.trail.proofs.value.Statement.{statement}
use Rattle.trail.proofs.value.Tie as tie

returns : tie.Need-returns-then-x-gt1
unfolding S.value
returns c = rw (← c.field-x.ensures, lt-ltb _ _ c.if-x-gt1.true)

returns-2 : tie.Need-returns-then-l-eq0
unfolding S.value
returns-2 c = rw (← c.field-x.ensures, le-ltb _ _ c.if-x-gt1.false, eq-eqb _ _ c.if-l-eq0.true)

returns-3 : tie.Need-returns-else-l-eq0
unfolding S.value
returns-3 c = rw (← c.field-x.ensures, le-ltb _ _ c.if-x-gt1.false, ne_eqb _ _ c.if-l-eq0.false)

pub value_spec : {M : Type 1} → statement M
value_spec = tie.close (tie.spec (λ c κs. search rules) returns returns-2 returns-3)
