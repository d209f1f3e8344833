-- `heap::seat` meets its contract. Assumes nothing.
use Rattle.heap.specs.Heap as Hp
use borrow.Author.Rules.{rules}
use Rattle.heap.proofs.seat.Statement.{statement}
use Rattle.heap.proofs.seat.Tie as tie

returns : tie.Need-returns
unfolding Hp.seated
returns c =
    rw (
      ← c.field-x.ensures,
      ← c.set_field.ensures,
      ← c.field-y.ensures,
    ) c.set_field-2.ensures

pub seat_spec : {M : Type 1} → statement M
seat_spec =
    tie.close
    (tie.spec (λ c κs. search rules) (λ c. search rules) (λ c. search rules) (λ c κs. search rules) (λ c κs. search rules) (λ c. search rules) (λ c. search rules) (λ c κs. search rules) (λ c. search rules) returns)
