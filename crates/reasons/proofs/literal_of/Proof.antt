-- `reasons::literal_of` meets its contract. Assumes nothing.
use borrow.Author.Tests.{eq-eqb, ne_eqb}
use Rattle.reasons.specs.Reason as R
use borrow.Author.Rules.{rules}
use Rattle.reasons.proofs.literal_of.Statement.{statement}
use Rattle.reasons.proofs.literal_of.Tie as tie

returns : tie.Need-returns-then-r-eq3
unfolding R.literal_of
returns c = rw (eq-eqb _ _ c.if-r-eq3.true) c.kept_literal.ensures

returns-2 : tie.Need-returns-then-r-eq2
unfolding R.literal_of
returns-2 c = rw (ne_eqb _ _ c.if-r-eq3.false, eq-eqb _ _ c.if-r-eq2.true) c.above_literal.ensures

returns-3 : tie.Need-returns
unfolding R.literal_of
returns-3 c = rw (ne_eqb _ _ c.if-r-eq3.false, ne_eqb _ _ c.if-r-eq2.false) c.below_literal.ensures

pub literal_of_spec : {M : Type 1} → statement M
literal_of_spec =
    tie.close
    (tie.spec (λ c κs. search rules) returns (λ c κs. search rules) returns-2 (λ c. search rules) (λ c κs. search rules) returns-3)
