-- `reasons::above_literal` meets its contract. Assumes nothing.
use borrow.Author.Tests.{eq-eqb, ne_eqb}
use Rattle.reasons.specs.Reason as R
use borrow.Author.Rules.{rules}
use Rattle.reasons.proofs.above_literal.Statement.{statement}
use Rattle.reasons.proofs.above_literal.Tie as tie

returns : tie.Need-returns-then-i-eq0
unfolding R.above_literal
returns c = rw (eq-eqb _ _ c.if-i-eq0.true)

returns-2 : tie.Need-returns-then-i-eq1
unfolding R.above_literal
returns-2 c =
    rw (
      ne_eqb _ _ c.if-i-eq0.false,
      eq-eqb _ _ c.if-i-eq1.true,
      ← c.field.ensures,
    ) c.opposite.ensures

returns-3 : tie.Need-returns
unfolding R.above_literal
returns-3 c =
    rw (
      ne_eqb _ _ c.if-i-eq0.false,
      ne_eqb _ _ c.if-i-eq1.false,
      ← c.field-2.ensures,
    ) c.opposite-2.ensures

pub above_literal_spec : {M : Type 1} → statement M
above_literal_spec =
    tie.close
    (tie.spec (λ c. search rules) returns (λ c κs. search rules) (λ c κs. search rules) returns-2 (λ c κs. search rules) (λ c κs. search rules) returns-3)
