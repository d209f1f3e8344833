-- `choices::explain` meets its contract. Assumes nothing.
use borrow.Author.Tests.{eq-eqb, ne_eqb}
use Rattle.choices.specs.Choices as Ch
use borrow.Author.Rules.{rules}
use Rattle.choices.proofs.explain.Statement.{statement}
use Rattle.choices.proofs.explain.Tie as tie

returns : tie.Need-returns-then-is_false
unfolding Ch.explained
returns c = rw (← c.opposite.ensures, ← c.is_false.ensures, c.if-is_false.true) (c.start_literal.ensures)

returns-2 : tie.Need-returns-then-l-net
unfolding Ch.explained
returns-2 c = rw (← c.opposite.ensures, ← c.is_false.ensures, c.if-is_false.false, eq-eqb _ _ c.if-l-net.true) (c.start.ensures)

returns-3 : tie.Need-returns
unfolding Ch.explained
returns-3 c = rw (← c.opposite.ensures, ← c.is_false.ensures, ← c.field-why.ensures, c.if-is_false.false, ne_eqb _ _ c.if-l-net.false) (c.expand_all.ensures)

pub explain_spec : {M : Type 1} → statement M
explain_spec =
    tie.close
    (tie.spec (λ c κs. search rules) (λ c κs. search rules) (λ c κs. search rules) (λ c. search rules) returns (λ c. search rules) (λ c κs. search rules) (λ c. search rules) returns-2 (λ c κs. search rules) (λ c κs. search rules) (λ c. search rules) returns-3)
