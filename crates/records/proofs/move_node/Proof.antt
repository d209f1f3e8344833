-- `records::move_node` meets its contract. Assumes nothing.
use borrow.Author.Tests.{eq-eqb, ne_eqb}
use Rattle.records.specs.Steps as S
use borrow.Author.Rules.{rules}
use Rattle.records.proofs.move_node.Statement.{statement}
use Rattle.records.proofs.move_node.Tie as tie
use Rattle.records.proofs.move_node.Reads as reads
use Rattle.records.proofs.move_node.Lts as lts
use Rattle.records.proofs.move_to.Reads as move-to-reads
use Rattle.records.proofs.word.Reads as word-reads

returns : tie.Need-returns-then-v-eq0
unfolding S.moved
returns c = rw (← c.word-v.ensures, eq-eqb _ _ c.if-v-eq0.true)

returns-2 : tie.Need-returns
unfolding S.moved
returns-2 c =
    rw (
      ← c.word-v.ensures,
      ne_eqb _ _ c.if-v-eq0.false,
    ) c.move_to.ensures

pub move_node_spec : {M : Type 1} → statement M
move_node_spec =
    tie.close (tie.spec (λ c κs. search rules) (λ c. search rules) returns (λ c κs. search rules) (λ c. search rules) returns-2)
