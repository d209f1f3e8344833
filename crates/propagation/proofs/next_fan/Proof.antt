-- `propagation::next_fan` meets its contract. Assumes nothing.
use borrow.Author.Tests.{eq-eqb, ne_eqb}
use Rattle.propagation.specs.Gates as G
use borrow.Author.Rules.{rules}
use Rattle.propagation.proofs.next_fan.Statement.{statement}
use Rattle.propagation.proofs.next_fan.Tie as tie

returns : tie.Need-returns-then-e-eq0
unfolding G.next_fan
returns c = rw (eq-eqb _ _ c.if-e-eq0.true) c.field.ensures

returns-2 : tie.Need-returns-else-e-eq0
unfolding G.next_fan
returns-2 c = rw (ne_eqb _ _ c.if-e-eq0.false) c.field-else-e-eq0.ensures

pub next_fan_spec : {M : Type 1} → statement M
next_fan_spec = tie.close (tie.spec (λ c κs. search rules) (λ c κs. search rules) returns returns-2)
