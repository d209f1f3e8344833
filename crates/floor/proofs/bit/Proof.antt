-- `floor::bit` meets its contract. Assumes nothing.
use Rattle.floor.specs.Place as P
use borrow.Author.Rules.{rules}
use Rattle.floor.proofs.bit.Statement.{statement}
use Rattle.floor.proofs.bit.Tie as tie

returns : tie.Need-returns
unfolding P.bit_of
returns c = rw (← c.field.ensures)

pub bit_spec : {M : Type 1} → statement M
bit_spec = tie.close (tie.spec (λ c κs. search rules) returns)
