-- `heap::child` meets its contract. Assumes nothing.
use borrow.Author.Tests.{le-leb, lt-leb}
use Rattle.heap.specs.Heap as Hp
use borrow.Author.Rules.{rules}
use Rattle.heap.proofs.child.Statement.{statement}
use Rattle.heap.proofs.child.Tie as tie

returns : tie.Need-returns-then-i-ge1073741824
unfolding Hp.child
returns c = rw (le-leb _ _ c.if-i-ge1073741824.true)

returns-2 : tie.Need-returns-else-i-ge1073741824
unfolding Hp.child
returns-2 c = rw (lt-leb _ _ c.if-i-ge1073741824.false)

pub child_spec : {M : Type 1} → statement M
child_spec = tie.close (tie.spec (λ c. search rules) (λ c. search rules) returns returns-2)
