-- `heap::is_seated` meets its contract. Assumes nothing.
use borrow.Author.Tests.{le-leb, lt-leb}
use Rattle.heap.specs.Heap as Hp
use borrow.Author.Rules.{rules}
use Rattle.heap.proofs.is_seated.Statement.{statement}
use Rattle.heap.proofs.is_seated.Tie as tie

returns : tie.Need-returns-then-size-i
unfolding Hp.is_seated
returns c = rw (← c.place_of-i.ensures, le-leb _ _ c.if-size-i.true)

returns-2 : tie.Need-returns
unfolding Hp.is_seated
returns-2 c = rw (← c.place_of-i.ensures, lt-leb _ _ c.if-size-i.false, ← c.at_place.ensures)

pub is_seated_spec : {M : Type 1} → statement M
is_seated_spec = tie.close (tie.spec (λ c κs. search rules) returns (λ c κs. search rules) returns-2)
