-- `records::move_to` meets its contract. Assumes nothing.
use Rattle.records.proofs.Turns.{moved-is}
use borrow.Author.Rules.{rules}
use Rattle.records.proofs.move_to.Statement.{statement}
use Rattle.records.proofs.move_to.Tie as tie
use Rattle.records.proofs.move_to.Reads as reads
use Rattle.records.proofs.move_to.Lts as lts
use Rattle.memory.proofs.place.Reads as place-reads
use Rattle.records.proofs.clear.Reads as clear_reads
use Rattle.records.proofs.put_three.Reads as put-three-reads
use Rattle.records.proofs.word.Reads as word-reads

returns : tie.Need-returns
returns c =
    let s = c.args in
    moved-is s.work.now c.clear.new.work c.put_three.new.work s.k s.v c.place-at.result c.word-a.result c.word-b.result c.word-c.result c.word-a.ensures c.word-b.ensures c.word-c.ensures c.place-at.ensures c.clear.ensures c.put_three.ensures

pub move_to_spec : {M : Type 1} → statement M
move_to_spec =
    tie.close
    (tie.spec (λ c κs. search rules) (λ c κs. search rules) (λ c κs. search rules) (λ c κs. search rules) (λ c κs. search rules) (λ c κs. search rules) (λ c. search rules) returns)
