-- `kept::attach` meets its contract. Assumes nothing.
use Rattle.memory.specs.Record as M
use Rattle.kept.specs.Kept as K
use borrow.Author.Rules.{rules}
use Rattle.kept.proofs.attach.Statement.{statement}
use Rattle.kept.proofs.attach.Tie as tie

returns : tie.Need-returns
unfolding K.attached M.stored
returns c =
    rw (
      ← c.field-next.ensures,
      ← c.set_head.ensures,
      ← c.set_head-2.ensures,
    ) c.set_field.ensures

pub attach_spec : {M : Type 1} → statement M
attach_spec =
    tie.close
    (tie.spec (λ c. search rules) (λ c. search rules) (λ c κs. search rules) (λ c. search rules) (λ c κs. search rules) (λ c. search rules) (λ c κs. search rules) (λ c κs. search rules) (λ c. search rules) returns)
