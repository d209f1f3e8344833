-- `heap::at_place` meets its contract. Assumes nothing.
use Rattle.heap.specs.Heap as Hp
use borrow.Author.Rules.{rules}
use Rattle.heap.proofs.at_place.Statement.{statement}
use Rattle.heap.proofs.at_place.Tie as tie

returns : tie.Need-returns
unfolding Hp.node_at
returns c = rw (← c.field.ensures)

pub at_place_spec : {M : Type 1} → statement M
at_place_spec = tie.close (tie.spec (λ c κs. search rules) returns)
