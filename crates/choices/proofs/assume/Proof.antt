-- `choices::assume` meets its contract. Assumes nothing.
use borrow.Author.Tests.{eq-eqb, ne_eqb}
use Rattle.choices.specs.Choices as Ch
use borrow.Author.Rules.{rules}
use Rattle.choices.proofs.assume.Statement.{statement}
use Rattle.choices.proofs.assume.Tie as tie

returns : tie.Need-returns-then-value-eq0
unfolding Ch.assumed
returns c = rw (← c.wish-l.ensures, ← c.value.ensures, ← c.opposite.ensures, eq-eqb _ _ c.if-value-eq0.true) (c.contradict.ensures)

returns-2 : tie.Need-returns
unfolding Ch.assumed
returns-2 c = rw (← c.wish-l.ensures, ← c.value.ensures, ne_eqb _ _ c.if-value-eq0.false) (c.take.ensures)

pub assume_spec : {M : Type 1} → statement M
assume_spec =
    tie.close
    (tie.spec (λ c κs. search rules) (λ c κs. search rules) (λ c κs. search rules) (λ c κs. search rules) (λ c. search rules) returns (λ c κs. search rules) (λ c. search rules) returns-2)
