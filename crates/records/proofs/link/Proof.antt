-- `records::link` meets its contract. Assumes nothing.
use Rattle.records.specs.Steps as S
use borrow.Author.Rules.{rules}
use Rattle.records.proofs.link.Statement.{statement}
use Rattle.records.proofs.link.Tie as tie
use Rattle.records.proofs.link.Reads as reads
use Rattle.records.proofs.link.Lts as lts
use Rattle.memory.proofs.field.Reads as field-reads
use Rattle.memory.proofs.set_field.Reads as set-field-reads
use Rattle.records.proofs.edge_to.Reads as edge-to-reads

returns : tie.Need-returns
unfolding S.linked_to
returns c =
    rw (
      ← c.field-v.ensures,
      ← c.field-fact.ensures,
      ← c.set_field.ensures,
      ← c.edge_to-fan.ensures,
    ) c.set_field-2.ensures

pub link_spec : {M : Type 1} → statement M
link_spec =
    tie.close
    (tie.spec (λ c κs. search rules) (λ c κs. search rules) (λ c. search rules) (λ c κs. search rules) (λ c κs. search rules) (λ c. search rules) (λ c. search rules) (λ c κs. search rules) (λ c. search rules) returns)
