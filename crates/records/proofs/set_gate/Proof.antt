-- `records::set_gate` meets its contract. Assumes nothing.
use Rattle.records.specs.Steps as S
use borrow.Author.Rules.{rules}
use Rattle.records.proofs.set_gate.Statement.{statement}
use Rattle.records.proofs.set_gate.Tie as tie
use Rattle.records.proofs.set_gate.Reads as reads
use Rattle.records.proofs.set_gate.Lts as lts
use Rattle.records.proofs.put_three.Reads as put-three-reads
use Rattle.records.proofs.renumber.Reads as renumber-reads
use Rattle.records.proofs.word.Reads as word-reads

returns : tie.Need-returns
unfolding S.gate_set
returns c =
    rw (
      ← c.word.ensures,
      ← c.renumber-a.ensures,
      ← c.word-2.ensures,
      ← c.renumber-b.ensures,
    ) c.put_three.ensures

pub set_gate_spec : {M : Type 1} → statement M
set_gate_spec =
    tie.close
    (tie.spec (λ c κs. search rules) (λ c κs. search rules) (λ c κs. search rules) (λ c κs. search rules) (λ c. search rules) (λ c κs. search rules) (λ c. search rules) returns)
