-- `conflicts::reset` meets its contract. Assumes nothing.
use Rattle.conflicts.specs.Conflicts as Cf
use borrow.Author.Rules.{rules}
use Rattle.conflicts.proofs.reset.Statement.{statement}
use Rattle.conflicts.proofs.reset.Tie as tie

returns : tie.Need-returns
unfolding Cf.reset
returns c =
    rw (
      ← c.set_field.ensures,
      ← c.set_field-2.ensures,
      ← c.set_field-3.ensures,
      ← c.set_field-4.ensures,
    ) c.set_field-5.ensures

pub reset_spec : {M : Type 1} → statement M
reset_spec =
    tie.close
    (tie.spec (λ c κs. search rules) (λ c κs. search rules) (λ c κs. search rules) (λ c κs. search rules) (λ c κs. search rules) (λ c. search rules) returns)
