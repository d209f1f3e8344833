-- `conflicts::reset_rest` meets its contract. Assumes nothing.
use Rattle.conflicts.specs.Conflicts as Cf
use borrow.Author.Rules.{rules}
use Rattle.conflicts.proofs.reset_rest.Statement.{statement}
use Rattle.conflicts.proofs.reset_rest.Tie as tie

returns : tie.Need-returns
unfolding Cf.reset_rest
returns c =
    rw (
      ← c.set_field.ensures,
      ← c.set_field-2.ensures,
      ← c.set_field-3.ensures,
    ) c.set_field-4.ensures

pub reset_rest_spec : {M : Type 1} → statement M
reset_rest_spec =
    tie.close
    (tie.spec (λ c κs. search rules) (λ c κs. search rules) (λ c κs. search rules) (λ c κs. search rules) (λ c. search rules) returns)
