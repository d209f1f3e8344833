-- `heap::lower` meets its contract. Assumes nothing.
use Rattle.heap.specs.Heap as Hp
use borrow.Author.Rules.{rules}
use Rattle.heap.proofs.lower.Statement.{statement}
use Rattle.heap.proofs.lower.Tie as tie

returns : tie.Need-returns
unfolding Hp.lowered
returns c =
    rw (
      ← c.parent.ensures,
      ← c.at_place-x.ensures,
    ) c.seat.ensures

pub lower_spec : {M : Type 1} → statement M
lower_spec = tie.close (tie.spec (λ c κs. search rules) (λ c κs. search rules) (λ c κs. search rules) (λ c. search rules) returns)
