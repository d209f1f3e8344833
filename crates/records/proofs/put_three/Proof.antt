-- `records::put_three` meets its contract. Assumes nothing.
use Rattle.records.specs.Steps as S
use borrow.Author.Rules.{rules}
use Rattle.records.proofs.put_three.Statement.{statement}
use Rattle.records.proofs.put_three.Tie as tie
use Rattle.records.proofs.put_three.Reads as reads
use Rattle.records.proofs.put_three.Lts as lts
use Rattle.memory.proofs.put.Reads as put_reads

returns : tie.Need-returns
unfolding S.three
returns c =
    rw (
      ← c.put.ensures,
      ← c.put-2.ensures,
    ) c.put-3.ensures

pub put_three_spec : {M : Type 1} → statement M
put_three_spec =
    tie.close
    (tie.spec (λ c κs. search rules) (λ c. search rules) (λ c κs. search rules) (λ c. search rules) (λ c κs. search rules) (λ c. search rules) returns)
