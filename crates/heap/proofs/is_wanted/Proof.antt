-- `heap::is_wanted` meets its contract. Assumes nothing.
use borrow.Author.Tests.{le-ltb, lt-ltb}
use Rattle.heap.specs.Heap as Hp
use borrow.Author.Rules.{rules}
use Rattle.heap.proofs.is_wanted.Statement.{statement}
use Rattle.heap.proofs.is_wanted.Tie as tie

returns : tie.Need-returns-then-net-v
unfolding Hp.is_wanted
returns c = rw (lt-ltb _ _ c.if-net-v.true, ← c.field.ensures)

returns-2 : tie.Need-returns
unfolding Hp.is_wanted
returns-2 c = rw (le-ltb _ _ c.if-net-v.false, ← c.field-2.ensures)

pub is_wanted_spec : {M : Type 1} → statement M
is_wanted_spec = tie.close (tie.spec (λ c κs. search rules) returns (λ c κs. search rules) returns-2)
