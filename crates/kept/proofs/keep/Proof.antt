-- `kept::keep` meets its contract. Assumes nothing.
use borrow.Author.Tests.{le-leb, le-ltb, lt-leb, lt-ltb}
use Rattle.kept.specs.Kept as K
use mathlib.Core.Path.{refl}
use borrow.Author.Rules.{rules}
use Rattle.kept.proofs.keep.Statement.{statement}
use Rattle.kept.proofs.keep.Tie as tie

returns : tie.Need-returns-then-net-need
unfolding K.kept
returns c = rw (lt-ltb _ _ c.if-net-need.true) (record { words = refl; arena = refl })

returns-2 : tie.Need-returns-then-d-ge1048576
unfolding K.kept
returns-2 c = rw (le-ltb _ _ c.if-net-need.false, le-leb _ _ c.if-d-ge1048576.true) (record { words = refl; arena = refl })

returns-3 : tie.Need-returns-then-d
unfolding K.kept
returns-3 c = rw (
  le-ltb _ _ c.if-net-need.false,
  lt-leb _ _ c.if-d-ge1048576.false,
  c.if-d.true,
) (record { words = c.write_head.ensures; arena = refl })

returns-4 : tie.Need-returns
unfolding K.kept
returns-4 c =
    rw (
      le-ltb _ _ c.if-net-need.false,
      lt-leb _ _ c.if-d-ge1048576.false,
      c.if-d.false,
    ) (record { words = refl; arena = refl })

pub keep_spec : {M : Type 1} → statement M
keep_spec =
    tie.close
    (tie.spec (λ c. search rules) (λ c. search rules) (λ c. search rules) (λ c. search rules) (λ c. search rules) (λ c. search rules) (λ c. search rules) (λ c. search rules) (λ c. search rules) (λ c. search rules) (λ c. search rules) returns returns-2 (λ c κs. search rules) (λ c. search rules) (λ c. search rules) (λ c. search rules) returns-3 returns-4)
