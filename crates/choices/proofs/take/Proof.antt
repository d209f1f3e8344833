-- `choices::take` meets its contract. Assumes nothing.
use Rattle.choices.specs.Choices as Ch
use borrow.Author.Rules.{rules}
use Rattle.choices.proofs.take.Statement.{statement}
use Rattle.choices.proofs.take.Tie as tie

returns : tie.Need-returns
unfolding Ch.taken
returns c =
    let u = c.decide-u.ensures in
    rw (← u.state) (record { words = u.words; search = c.with_trail.ensures })

pub take_spec : {M : Type 1} → statement M
take_spec = tie.close (tie.spec (λ c κs. search rules) (λ c κs. search rules) (λ c. search rules) returns)
