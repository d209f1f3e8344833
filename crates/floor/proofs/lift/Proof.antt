-- `floor::lift` meets its contract. Assumes nothing.
use borrow.Author.Tests.{eq-eqb, ne_eqb}
use Rattle.floor.specs.Place as P
use borrow.Author.Rules.{rules}
use Rattle.floor.proofs.lift.Statement.{statement}
use Rattle.floor.proofs.lift.Tie as tie

returns : tie.Need-returns-then-fact-eq0
unfolding P.lifted
returns c =
    rw (
      ← c.field-fact.ensures,
      eq-eqb _ _ c.if-fact-eq0.true,
    ) c.set_field.ensures

returns-2 : tie.Need-returns-else-fact-eq0
unfolding P.lifted
returns-2 c = rw (← c.field-fact.ensures, ne_eqb _ _ c.if-fact-eq0.false)

pub lift_spec : {M : Type 1} → statement M
lift_spec =
    tie.close
    (tie.spec (λ c κs. search rules) (λ c. search rules) (λ c κs. search rules) (λ c. search rules) returns (λ c. search rules) returns-2)
