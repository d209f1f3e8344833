-- `heap::is_below` meets its contract. Assumes nothing.
use borrow.Author.Tests.{le-leb, lt-leb}
use Rattle.heap.specs.Heap as Hp
use borrow.Author.Rules.{rules}
use Rattle.heap.proofs.is_below.Statement.{statement}
use Rattle.heap.proofs.is_below.Tie as tie

returns : tie.Need-returns-then-size-i
unfolding Hp.is_below
returns c = rw (le-leb _ _ c.if-size-i.true)

returns-2 : tie.Need-returns
unfolding Hp.is_below
returns-2 c =
    rw (
      lt-leb _ _ c.if-size-i.false,
      ← c.at_place-x.ensures,
      ← c.field.ensures,
      ← c.field-2.ensures,
    )

pub is_below_spec : {M : Type 1} → statement M
is_below_spec = tie.close (tie.spec returns (λ c κs. search rules) (λ c κs. search rules) (λ c κs. search rules) returns-2)
