-- `choices::differs` meets its contract. Assumes nothing.
use borrow.Author.Tests.{le-leb, lt-leb}
use Rattle.choices.specs.Choices as Ch
use borrow.Author.Rules.{rules}
use Rattle.choices.proofs.differs.Statement.{statement}
use Rattle.choices.proofs.differs.Tie as tie

returns : tie.Need-returns-then-b-ge2
unfolding Ch.differs
returns c = rw (← c.field.ensures, le-leb _ _ c.if-b-ge2.true)

returns-2 : tie.Need-returns
unfolding Ch.differs
returns-2 c = rw (← c.field.ensures, lt-leb _ _ c.if-b-ge2.false, ← c.field-2.ensures)

pub differs_spec : {M : Type 1} → statement M
differs_spec = tie.close (tie.spec (λ c κs. search rules) returns (λ c κs. search rules) returns-2)
