-- `heap::place_of` meets its contract. Assumes nothing.
use Rattle.heap.specs.Heap as Hp
use borrow.Author.Rules.{rules}
use Rattle.heap.proofs.place_of.Statement.{statement}
use Rattle.heap.proofs.place_of.Tie as tie

returns : tie.Need-returns
unfolding Hp.place_of
returns c = rw (← c.field.ensures)

pub place_of_spec : {M : Type 1} → statement M
place_of_spec = tie.close (tie.spec (λ c κs. search rules) returns)
