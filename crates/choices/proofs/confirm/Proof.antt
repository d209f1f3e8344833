-- `choices::confirm` meets its contract. Assumes nothing.
use Rattle.choices.specs.Choices as Ch
use borrow.Author.Rules.{rules}
use Rattle.choices.proofs.confirm.Statement.{statement}
use Rattle.choices.proofs.confirm.Tie as tie

returns : tie.Need-returns-then-show
unfolding Ch.confirmed
returns c = rw (← c.show.ensures.true, c.if-show.true) (record { words = c.show.ensures.words; search = c.end.ensures })

returns-2 : tie.Need-returns
unfolding Ch.confirmed
returns-2 c = rw (← c.show.ensures.true, c.if-show.false) (record { words = c.show.ensures.words; search = c.end-2.ensures })

pub confirm_spec : {M : Type 1} → statement M
confirm_spec =
    tie.close
    (tie.spec (λ c κs. search rules) (λ c κs. search rules) (λ c. search rules) returns (λ c κs. search rules) (λ c. search rules) returns-2)
