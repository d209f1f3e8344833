-- `floor::can_rise` meets its contract. Assumes nothing.
use Rattle.floor.specs.Place as P
use borrow.Author.Rules.{rules}
use Rattle.floor.proofs.can_rise.Statement.{statement}
use Rattle.floor.proofs.can_rise.Tie as tie

returns : tie.Need-returns
unfolding P.can_rise
returns c = rw (← c.bit-b.ensures)

pub can_rise_spec : {M : Type 1} → statement M
can_rise_spec = tie.close (tie.spec (λ c κs. search rules) returns)
