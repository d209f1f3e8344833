-- `watches::turn` meets its contract. Assumes nothing.
use borrow.Author.Tests.{eq-eqb, ne_eqb}
use Rattle.watches.specs.Watch as W
use mathlib.Core.Path.{refl}
use borrow.Author.Rules.{rules}
use Rattle.watches.proofs.turn.Statement.{statement}
use Rattle.watches.proofs.turn.Tie as tie

returns : tie.Need-returns-then-value-eq1
unfolding W.turned W.turned_by W.chosen
returns c = rw (
  ← c.partner-o.ensures,
  ← c.value.ensures,
  eq-eqb _ _ c.if-value-eq1.true,
) (record { words = refl; state = c.pass.ensures })

returns-2 : tie.Need-returns-in-Some
unfolding W.turned W.turned_by W.chosen
returns-2 c = rw (
  ← c.partner-o.ensures,
  ← c.value.ensures,
  ← c.head-n.ensures,
  ← c.find.ensures,
  ne_eqb _ _ c.if-value-eq1.false,
  c.in-Some.is,
) c.rewatch.ensures

returns-3 : tie.Need-returns-in-None
unfolding W.turned W.turned_by W.chosen
returns-3 c = rw (
  ← c.partner-o.ensures,
  ← c.value.ensures,
  ← c.head-n.ensures,
  ← c.find.ensures,
  ne_eqb _ _ c.if-value-eq1.false,
  c.in-None.is,
) c.close.ensures

pub turn_spec : {M : Type 1} → statement M
turn_spec =
    tie.close
    (tie.spec (λ c κs. search rules) (λ c κs. search rules) (λ c κs. search rules) (λ c. search rules) returns (λ c κs. search rules) (λ c κs. search rules) (λ c. search rules) (λ c κs. search rules) (λ c. search rules) (λ c κs. search rules) (λ c. search rules) returns-2 (λ c. search rules) returns-3)
