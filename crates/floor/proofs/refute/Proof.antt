-- `floor::refute` meets its contract. Assumes nothing.
use Rattle.floor.specs.Place as P
use mathlib.Core.Path.{refl}
use borrow.Author.Rules.{rules}
use Rattle.floor.proofs.refute.Statement.{statement}
use Rattle.floor.proofs.refute.Tie as tie

returns : tie.Need-returns-in_default
unfolding P.refuted P.raised_by
returns c = rw (← c.test_clause.ensures, c.if-d.true, c.in_default.is) (record {
  words = refl;
  says = refl;
})

returns-2 : tie.Need-returns-then-d
unfolding P.refuted P.raised_by
returns-2 c = rw (
  ← c.test_clause.ensures,
  c.if-d.true,
  c.in-Some.is,
) c.raise.ensures

returns-3 : tie.Need-returns
unfolding P.refuted P.raised_by
returns-3 c = rw c.if-d.false (record { words = refl; says = refl })

pub refute_spec : {M : Type 1} → statement M
refute_spec =
    tie.close
    (tie.spec (λ c κs. search rules) (λ c. search rules) (λ c. search rules) (λ c. search rules) returns (λ c κs. search rules) (λ c. search rules) returns-2 returns-3)
