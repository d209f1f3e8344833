-- `records::set_leaf` meets its contract. Assumes nothing.
use Rattle.records.specs.Steps as S
use borrow.Author.Rules.{rules}
use Rattle.records.proofs.set_leaf.Statement.{statement}
use Rattle.records.proofs.set_leaf.Tie as tie
use Rattle.records.proofs.set_leaf.Reads as reads
use Rattle.records.proofs.set_leaf.Lts as lts
use Rattle.records.proofs.edge_to.Reads as edge-to-reads
use Rattle.records.proofs.first_fact.Reads as first-fact-reads
use Rattle.records.proofs.put_three.Reads as put-three-reads
use Rattle.records.proofs.word.Reads as word-reads

returns : tie.Need-returns
unfolding S.leaf_set
returns c =
    rw (
      ← c.edge_to-e.ensures,
      ← c.word.ensures,
      ← c.first_fact-fact.ensures,
    ) c.put_three.ensures

pub set_leaf_spec : {M : Type 1} → statement M
set_leaf_spec =
    tie.close
    (tie.spec (λ c κs. search rules) (λ c κs. search rules) (λ c κs. search rules) (λ c. search rules) (λ c κs. search rules) (λ c. search rules) returns)
