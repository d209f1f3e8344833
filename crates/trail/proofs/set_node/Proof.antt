-- `trail::set_node` meets its contract. Assumes nothing.
use Rattle.trail.specs.Trail as S
use borrow.Author.Rules.{rules}
use Rattle.trail.proofs.set_node.Statement.{statement}
use Rattle.trail.proofs.set_node.Tie as tie

returns : tie.Need-returns
unfolding S.noted
returns c =
    rw (
      ← c.set_field.ensures,
      ← c.set_field-2.ensures,
    ) c.set_field-3.ensures

pub set_node_spec : {M : Type 1} → statement M
set_node_spec =
    tie.close
    (tie.spec (λ c. search rules) (λ c κs. search rules) (λ c κs. search rules) (λ c κs. search rules) (λ c. search rules) returns)
