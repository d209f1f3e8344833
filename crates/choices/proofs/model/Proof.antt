-- `choices::model` meets its contract. Assumes nothing.
use borrow.Author.Tests.{le-ltb, lt-ltb}
use Rattle.choices.specs.Choices as Ch
use borrow.Author.Rules.{rules}
use Rattle.choices.proofs.model.Statement.{statement}
use Rattle.choices.proofs.model.Tie as tie

returns : tie.Need-returns-then-a-net
unfolding Ch.modelled
returns c = rw (← c.agree-a.ensures, lt-ltb _ _ c.if-a-net.true) (c.change.ensures)

returns-2 : tie.Need-returns
unfolding Ch.modelled
returns-2 c = rw (← c.agree-a.ensures, le-ltb _ _ c.if-a-net.false) (c.confirm.ensures)

pub model_spec : {M : Type 1} → statement M
model_spec =
    tie.close
    (tie.spec (λ c κs. search rules) (λ c. search rules) (λ c κs. search rules) (λ c. search rules) returns (λ c κs. search rules) (λ c. search rules) returns-2)
