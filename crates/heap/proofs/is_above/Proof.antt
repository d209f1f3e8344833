-- `heap::is_above` meets its contract. Assumes nothing.
use borrow.Author.Tests.{eq-eqb, ne_eqb}
use Rattle.heap.specs.Heap as Hp
use borrow.Author.Rules.{rules}
use Rattle.heap.proofs.is_above.Statement.{statement}
use Rattle.heap.proofs.is_above.Tie as tie

returns : tie.Need-returns-then-i-eq0
unfolding Hp.is_above
returns c = rw (eq-eqb _ _ c.if-i-eq0.true)

returns-2 : tie.Need-returns
unfolding Hp.is_above
returns-2 c =
    rw (
      ne_eqb _ _ c.if-i-eq0.false,
      ← c.parent.ensures,
      ← c.at_place-x.ensures,
      ← c.field.ensures,
      ← c.field-2.ensures,
    )

pub is_above_spec : {M : Type 1} → statement M
is_above_spec =
    tie.close
    (tie.spec returns (λ c κs. search rules) (λ c κs. search rules) (λ c κs. search rules) (λ c κs. search rules) returns-2)
