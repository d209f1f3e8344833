-- `resolve::include` meets its contract. Assumes nothing.
use Rattle.resolve.specs.Draft as D
use mathlib.Core.Path.{refl}
use borrow.Author.Rules.{rules}
use Rattle.resolve.proofs.include.Statement.{statement}
use Rattle.resolve.proofs.include.Tie as tie

returns : tie.Need-returns-then-is_false
unfolding D.included
returns c = rw (← c.is_false.ensures, c.if-is_false.true) (record { words = refl; draft = refl })

returns-2 : tie.Need-returns-then-is_member
unfolding D.included
returns-2 c =
    rw (
      ← c.is_false.ensures,
      ← c.is_member.ensures,
      c.if-is_false.false,
      c.if-is_member.true,
    ) (record { words = refl; draft = refl })

returns-3 : tie.Need-returns
unfolding D.included
returns-3 c =
    rw (
      ← c.is_false.ensures,
      ← c.is_member.ensures,
      c.if-is_false.false,
      c.if-is_member.false,
    ) c.append.ensures

pub include_spec : {M : Type 1} → statement M
include_spec =
    tie.close
    (tie.spec (λ c κs. search rules) (λ c. search rules) returns (λ c κs. search rules) (λ c. search rules) returns-2 (λ c κs. search rules) (λ c. search rules) returns-3)
