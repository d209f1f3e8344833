-- `heap::lift` meets its contract. Assumes nothing.
use Rattle.heap.specs.Heap as Hp
use borrow.Author.Rules.{rules}
use Rattle.heap.proofs.lift.Statement.{statement}
use Rattle.heap.proofs.lift.Tie as tie

returns : tie.Need-returns
unfolding Hp.lifted
returns c = rw (← c.at_place-x.ensures) c.seat.ensures

pub lift_spec : {M : Type 1} → statement M
lift_spec = tie.close (tie.spec (λ c κs. search rules) (λ c κs. search rules) (λ c. search rules) returns)
