-- `reasons::below_literal` meets its contract. Assumes nothing.
use borrow.Author.Tests.{eq-eqb, ne_eqb}
use Rattle.reasons.specs.Reason as R
use borrow.Author.Rules.{rules}
use Rattle.reasons.proofs.below_literal.Statement.{statement}
use Rattle.reasons.proofs.below_literal.Tie as tie

returns : tie.Need-returns-then-i-eq0
unfolding R.below_literal
returns c = rw (eq-eqb _ _ c.if-i-eq0.true)

returns-2 : tie.Need-returns
unfolding R.below_literal
returns-2 c = rw (ne_eqb _ _ c.if-i-eq0.false) c.field.ensures

pub below_literal_spec : {M : Type 1} → statement M
below_literal_spec = tie.close (tie.spec (λ c. search rules) (λ c. search rules) returns (λ c κs. search rules) returns-2)
