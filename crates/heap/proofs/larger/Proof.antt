-- `heap::larger` meets its contract. Assumes nothing.
use borrow.Author.Tests.{le-leb, le-ltb, lt-leb, lt-ltb}
use Rattle.heap.specs.Heap as Hp
use borrow.Author.Rules.{rules}
use Rattle.heap.proofs.larger.Statement.{statement}
use Rattle.heap.proofs.larger.Tie as tie

returns : tie.Need-returns-then-size-i
unfolding Hp.larger
returns c = rw (le-leb _ _ c.if-size-i.true)

returns-2 : tie.Need-returns-then-size-i-2
unfolding Hp.larger
returns-2 c = rw (lt-leb _ _ c.if-size-i.false, le-leb _ _ c.if-size-i-2.true)

returns-3 : tie.Need-returns-then-field
unfolding Hp.larger
returns-3 c =
    rw (
      ← c.at_place-x.ensures,
      ← c.at_place-y.ensures,
      ← c.field.ensures,
      ← c.field-2.ensures,
      lt-leb _ _ c.if-size-i.false,
      lt-leb _ _ c.if-size-i-2.false,
      lt-ltb _ _ c.if-field.true,
    )

returns-4 : tie.Need-returns
unfolding Hp.larger
returns-4 c =
    rw (
      ← c.at_place-x.ensures,
      ← c.at_place-y.ensures,
      ← c.field.ensures,
      ← c.field-2.ensures,
      lt-leb _ _ c.if-size-i.false,
      lt-leb _ _ c.if-size-i-2.false,
      le-ltb _ _ c.if-field.false,
    )

pub larger_spec : {M : Type 1} → statement M
larger_spec =
    tie.close
    (tie.spec returns (λ c. search rules) returns-2 (λ c κs. search rules) (λ c. search rules) (λ c κs. search rules) (λ c κs. search rules) (λ c κs. search rules) (λ c. search rules) returns-3 returns-4)
