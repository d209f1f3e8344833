-- `memory::successor` meets its contract. Assumes nothing.
use borrow.Author.Tests.{eq-eqb, ne_eqb}
use Rattle.memory.specs.Record as W
use borrow.Author.Rules.{rules}
use Rattle.memory.proofs.successor.Statement.{statement}
use Rattle.memory.proofs.successor.Tie as tie

returns : tie.Need-returns-then-i-eq-LARGEST
unfolding W.successor
returns c = rw (eq-eqb _ _ c.if-i-eq-LARGEST.true)

returns-2 : tie.Need-returns-else-i-eq-LARGEST
unfolding W.successor
returns-2 c = rw (ne_eqb _ _ c.if-i-eq-LARGEST.false)

pub successor_spec : {M : Type 1} → statement M
successor_spec = tie.close (tie.spec (λ c. search rules) returns returns-2)
