-- `heap::parent` meets its contract. Assumes nothing.
use borrow.Author.Tests.{eq-eqb, ne_eqb}
use Rattle.heap.specs.Heap as Hp
use borrow.Author.Rules.{rules}
use Rattle.heap.proofs.parent.Statement.{statement}
use Rattle.heap.proofs.parent.Tie as tie

returns : tie.Need-returns-then-i-eq0
unfolding Hp.parent
returns c = rw (eq-eqb _ _ c.if-i-eq0.true)

returns-2 : tie.Need-returns-else-i-eq0
unfolding Hp.parent
returns-2 c = rw (ne_eqb _ _ c.if-i-eq0.false)

pub parent_spec : {M : Type 1} → statement M
parent_spec = tie.close (tie.spec (λ c. search rules) returns returns-2)
