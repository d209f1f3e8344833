-- `conflicts::prepare` meets its contract. Assumes nothing.
use Rattle.conflicts.specs.Conflicts as Cf
use borrow.Author.Rules.{rules}
use Rattle.conflicts.proofs.prepare.Statement.{statement}
use Rattle.conflicts.proofs.prepare.Tie as tie

returns : tie.Need-returns
unfolding Cf.prepared
returns c =
    rw (
      ← c.reset_all.ensures,
      ← c.set_field.ensures,
    ) c.wipe.ensures

pub prepare_spec : {M : Type 1} → statement M
prepare_spec =
    tie.close
    (tie.spec (λ c κs. search rules) (λ c κs. search rules) (λ c. search rules) (λ c. search rules) (λ c. search rules) (λ c κs. search rules) (λ c. search rules) returns)
