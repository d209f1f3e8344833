-- `conflicts::step` meets its contract. Assumes nothing.
use borrow.Author.Tests.{eq-eqb, ne_eqb}
use Rattle.conflicts.specs.Conflicts as Cf
use borrow.Author.Rules.{rules}
use Rattle.conflicts.proofs.step.Statement.{statement}
use Rattle.conflicts.proofs.step.Tie as tie

returns : tie.Need-returns-then-c
unfolding Cf.stepped
returns c =
    rw (
      ← c.follow-u.ensures.words,
      ← c.follow-u.ensures.search,
      eq-eqb _ _ c.if-c.true,
    ) (c.extend.ensures)

returns-2 : tie.Need-returns
unfolding Cf.stepped
returns-2 c =
    rw (
      ← c.follow-u.ensures.words,
      ← c.follow-u.ensures.search,
      ne_eqb _ _ c.if-c.false,
    ) (c.repair.ensures)

pub step_spec : {M : Type 1} → statement M
step_spec =
    tie.close
    (tie.spec (λ c κs. search rules) (λ c κs. search rules) (λ c. search rules) returns (λ c κs. search rules) (λ c. search rules) returns-2)
