-- `choices::release` meets its contract. Assumes nothing.
use borrow.Author.Tests.{eq-eqb, ne_eqb}
use Rattle.choices.specs.Choices as Ch
use mathlib.Core.Path.{refl}
use Rattle.choices.proofs.Calls.{agreed-by}
use borrow.Author.Rules.{rules}
use Rattle.choices.proofs.release.Statement.{statement}
use Rattle.choices.proofs.release.Tie as tie

returns : tie.Need-returns-then-field-eq0
unfolding Ch.released
returns c = rw (← c.field.ensures, ← c.field-to.ensures, ← c.saturating_sub.ensures, eq-eqb _ _ c.if-field-eq0.true) (c.retreat.ensures)

returns-2 : tie.Need-returns
unfolding Ch.released
returns-2 c = rw (← c.field.ensures, ne_eqb _ _ c.if-field-eq0.false) (record { words = refl; search = agreed-by c.args.s c.args.i c.saturating_sub-2.ensures c.min.ensures c.with_agreed.ensures c.with_order.ensures })

pub release_spec : {M : Type 1} → statement M
release_spec =
    tie.close
    (tie.spec (λ c κs. search rules) (λ c κs. search rules) (λ c κs. search rules) (λ c κs. search rules) (λ c. search rules) returns (λ c κs. search rules) (λ c κs. search rules) (λ c κs. search rules) (λ c κs. search rules) (λ c. search rules) returns-2)
