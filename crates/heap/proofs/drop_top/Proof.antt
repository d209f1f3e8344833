-- `heap::drop_top` meets its contract. Assumes nothing.
use borrow.Author.Tests.{le-leb, lt-leb}
use Rattle.heap.specs.Heap as Hp
use mathlib.Core.Path.{refl}
use borrow.Author.Rules.{rules}
use Rattle.heap.proofs.drop_top.Statement.{statement}
use Rattle.heap.proofs.drop_top.Tie as tie

returns : tie.Need-returns-then-heap-le1
unfolding Hp.dropped
returns c = rw (le-leb _ _ c.if-heap-le1.true) (record { words = refl; heap = refl })

returns-2 : tie.Need-returns
unfolding Hp.dropped
returns-2 c =
    rw (lt-leb _ _ c.if-heap-le1.false)
    (record {
      words = rw (← c.at_place-x.ensures)
          c.down.ensures;
      heap = refl;
    })

pub drop_top_spec : {M : Type 1} → statement M
drop_top_spec =
    tie.close
    (tie.spec returns (λ c. search rules) (λ c κs. search rules) (λ c. search rules) (λ c κs. search rules) (λ c. search rules) (λ c. search rules) returns-2)
