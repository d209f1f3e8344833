-- `learning::rank` meets its contract. Assumes nothing.
use borrow.Author.Tests.{le-ltb, lt-ltb}
use Rattle.learning.specs.Learning as Ln
use borrow.Author.Rules.{rules}
use Rattle.learning.proofs.rank.Statement.{statement}
use Rattle.learning.proofs.rank.Tie as tie

returns : tie.Need-returns-then-field-level
unfolding Ln.ranked
returns c = rw (← c.field-level.ensures, ← c.field.ensures, lt-ltb _ _ c.if-field-level.true)

returns-2 : tie.Need-returns-then-field-level-2
unfolding Ln.ranked
returns-2 c =
    rw (
      ← c.field-level.ensures,
      ← c.field.ensures,
      ← c.field-2.ensures,
      le-ltb _ _ c.if-field-level.false,
      lt-ltb _ _ c.if-field-level-2.true,
    )

returns-3 : tie.Need-returns
unfolding Ln.ranked
returns-3 c =
    rw (
      ← c.field-level.ensures,
      ← c.field.ensures,
      ← c.field-2.ensures,
      le-ltb _ _ c.if-field-level.false,
      le-ltb _ _ c.if-field-level-2.false,
    )

pub rank_spec : {M : Type 1} → statement M
rank_spec =
    tie.close
    (tie.spec (λ c κs. search rules) (λ c κs. search rules) returns (λ c κs. search rules) returns-2 returns-3)
