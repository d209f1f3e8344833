-- `records::renumber` meets its contract. Assumes nothing.
use Rattle.records.specs.Steps as S
use borrow.Author.Rules.{rules}
use Rattle.records.proofs.renumber.Statement.{statement}
use Rattle.records.proofs.renumber.Tie as tie
use Rattle.records.proofs.renumber.Reads as reads
use Rattle.records.proofs.renumber.Lts as lts
use Rattle.records.proofs.edge_to.Reads as edge-to-reads
use Rattle.records.proofs.word.Reads as word-reads

returns : tie.Need-returns
unfolding S.renumber
returns c = rw (← c.word.ensures) c.edge_to.ensures

pub renumber_spec : {M : Type 1} → statement M
renumber_spec = tie.close (tie.spec (λ c κs. search rules) (λ c κs. search rules) returns)
