-- `memory::opposite` meets its contract. Assumes nothing.
use Rattle.memory.specs.Record as W
use borrow.Author.Tests.{eq-eqb, ne_eqb}
use borrow.Author.Rules.{rules}
use Rattle.memory.proofs.opposite.Statement.{statement}
use Rattle.memory.proofs.opposite.Tie as tie

returns : tie.Need-returns-then-l-eq0
unfolding W.opposite
returns c = rw (eq-eqb _ _ c.if-l-eq0.true)

returns-2 : tie.Need-returns-else-l-eq0
unfolding W.opposite
returns-2 c = rw (ne_eqb _ _ c.if-l-eq0.false)

pub opposite_spec : {M : Type 1} → statement M
opposite_spec = tie.close (tie.spec (λ c. search rules) (λ c. search rules) returns returns-2)
