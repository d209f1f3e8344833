-- `floor::is_wrong` meets its contract. Assumes nothing.
use borrow.Author.Tests.{eq-eqb, le-ltb, lt-ltb, ne_eqb}
use Rattle.floor.specs.Place as P
use borrow.Author.Rules.{rules}
use Rattle.floor.proofs.is_wrong.Statement.{statement}
use Rattle.floor.proofs.is_wrong.Tie as tie

returns : tie.Need-returns-then-l-opposite
unfolding P.is_wrong
returns c = rw (← c.opposite.ensures, eq-eqb _ _ c.if-l-opposite.true)

returns-2 : tie.Need-returns-then-l-eq0
unfolding P.is_wrong
returns-2 c = rw (← c.opposite.ensures, ne_eqb _ _ c.if-l-opposite.false, eq-eqb _ _ c.if-l-eq0.true)

returns-3 : tie.Need-returns-then-net-l
unfolding P.is_wrong
returns-3 c =
    rw (
      ← c.opposite.ensures,
      ne_eqb _ _ c.if-l-opposite.false,
      ne_eqb _ _ c.if-l-eq0.false,
      lt-ltb _ _ c.if-net-l.true,
    )

returns-4 : tie.Need-returns-then-bit-eq1
unfolding P.is_wrong
returns-4 c =
    rw (
      ← c.opposite.ensures,
      ← c.bit.ensures,
      ne_eqb _ _ c.if-l-opposite.false,
      ne_eqb _ _ c.if-l-eq0.false,
      le-ltb _ _ c.if-net-l.false,
      eq-eqb _ _ c.if-bit-eq1.true,
    )

returns-5 : tie.Need-returns
unfolding P.is_wrong
returns-5 c =
    rw (
      ← c.opposite.ensures,
      ← c.bit.ensures,
      ne_eqb _ _ c.if-l-opposite.false,
      ne_eqb _ _ c.if-l-eq0.false,
      le-ltb _ _ c.if-net-l.false,
      ne_eqb _ _ c.if-bit-eq1.false,
    )

pub is_wrong_spec : {M : Type 1} → statement M
is_wrong_spec =
    tie.close
    (tie.spec (λ c κs. search rules) returns returns-2 returns-3 (λ c κs. search rules) returns-4 returns-5)
