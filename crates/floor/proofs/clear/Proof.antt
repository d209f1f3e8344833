-- `floor::clear` meets its contract. Assumes nothing.
use mathlib.Core.Path.{sym, ◌∙◌}
use borrow.Author.Tests.{eq-eqb, ne_eqb}
use Rattle.floor.specs.Place as P
use borrow.Author.Rules.{rules}
use Rattle.floor.proofs.clear.Statement.{statement}
use Rattle.floor.proofs.clear.Tie as tie

returns : tie.Need-returns-then-is_idle
unfolding P.cleared
returns c = rw (sym c.is_idle.ensures ∙ c.if-is_idle.true, ← c.field-fact.ensures) c.set_field.ensures

returns-2 : tie.Need-returns-then-fact-eq1
unfolding P.cleared
returns-2 c = rw (sym c.is_idle.ensures ∙ c.if-is_idle.false, ← c.field-fact.ensures, eq-eqb _ _ c.if-fact-eq1.true) c.set_field-then-fact-eq1.ensures

returns-3 : tie.Need-returns-else-fact-eq1
unfolding P.cleared
returns-3 c = rw (sym c.is_idle.ensures ∙ c.if-is_idle.false, ← c.field-fact.ensures, ne_eqb _ _ c.if-fact-eq1.false)

pub clear_spec : {M : Type 1} → statement M
clear_spec =
    tie.close
    (tie.spec (λ c κs. search rules) (λ c κs. search rules) (λ c. search rules) (λ c. search rules) (λ c. search rules) (λ c κs. search rules) (λ c. search rules) returns (λ c. search rules) (λ c κs. search rules) (λ c. search rules) returns-2 (λ c. search rules) returns-3)
