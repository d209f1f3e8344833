-- `records::first_fact` meets its contract. Assumes nothing.
use borrow.Author.Tests.{eq-eqb, ne_eqb}
use Rattle.records.specs.Steps as S
use borrow.Author.Rules.{rules}
use Rattle.records.proofs.first_fact.Statement.{statement}
use Rattle.records.proofs.first_fact.Tie as tie
use Rattle.records.proofs.first_fact.Reads as reads
use Rattle.records.proofs.first_fact.Lts as lts

returns : tie.Need-returns-then-mark-eq0
unfolding S.first_fact
returns c = rw (eq-eqb _ _ c.if-mark-eq0.true)

returns-2 : tie.Need-returns-else-mark-eq0
unfolding S.first_fact
returns-2 c = rw (ne_eqb _ _ c.if-mark-eq0.false)

pub first_fact_spec : {M : Type 1} → statement M
first_fact_spec = tie.close (tie.spec returns returns-2)
