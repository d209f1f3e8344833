-- `floor::value` meets its contract. Assumes nothing.
use borrow.Author.Tests.{eq-eqb, le-leb, lt-leb, ne_eqb}
use Rattle.floor.specs.Place as P
use borrow.Author.Rules.{rules}
use Rattle.floor.proofs.value.Statement.{statement}
use Rattle.floor.proofs.value.Tie as tie

returns : tie.Need-returns-then-v-eq0
unfolding P.node_value
returns c = rw (eq-eqb _ _ c.if-v-eq0.true)

returns-2 : tie.Need-returns-then-bit-eq1
unfolding P.node_value
returns-2 c =
    rw (
      ← c.bit.ensures,
      ne_eqb _ _ c.if-v-eq0.false,
      le-leb _ _ c.if-v-net.true,
      eq-eqb _ _ c.if-bit-eq1.true,
    )

returns-3 : tie.Need-returns-else-bit-eq1
unfolding P.node_value
returns-3 c =
    rw (
      ← c.bit.ensures,
      ne_eqb _ _ c.if-v-eq0.false,
      le-leb _ _ c.if-v-net.true,
      ne_eqb _ _ c.if-bit-eq1.false,
    )

returns-4 : tie.Need-returns-then-edge-eq0
unfolding P.node_value
returns-4 c =
    rw (
      ← c.field.ensures,
      ← c.edge.ensures,
      ne_eqb _ _ c.if-v-eq0.false,
      lt-leb _ _ c.if-v-net.false,
      eq-eqb _ _ c.if-edge-eq0.true,
    )

returns-5 : tie.Need-returns
unfolding P.node_value
returns-5 c =
    rw (
      ← c.field.ensures,
      ← c.edge.ensures,
      ← c.field-2.ensures,
      ← c.edge-2.ensures,
      ne_eqb _ _ c.if-v-eq0.false,
      lt-leb _ _ c.if-v-net.false,
      ne_eqb _ _ c.if-edge-eq0.false,
    )

pub value_spec : {M : Type 1} → statement M
value_spec =
    tie.close
    (tie.spec returns (λ c κs. search rules) returns-2 returns-3 (λ c κs. search rules) (λ c κs. search rules) returns-4 (λ c κs. search rules) (λ c κs. search rules) returns-5)
