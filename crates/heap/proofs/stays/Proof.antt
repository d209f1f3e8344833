-- `heap::stays` meets its contract. Assumes nothing.
use borrow.Author.Tests.{le-leb, lt-leb}
use Rattle.heap.specs.Heap as Hp
use borrow.Author.Rules.{rules}
use Rattle.heap.proofs.stays.Statement.{statement}
use Rattle.heap.proofs.stays.Tie as tie

returns : tie.Need-returns-then-i-ge65536
unfolding Hp.stays
returns c = rw (le-leb _ _ c.if-i-ge65536.true)

returns-2 : tie.Need-returns-then-is_above
unfolding Hp.stays
returns-2 c = rw (lt-leb _ _ c.if-i-ge65536.false, ← c.is_above.ensures, c.if-is_above.true)

returns-3 : tie.Need-returns
unfolding Hp.stays
returns-3 c = rw (lt-leb _ _ c.if-i-ge65536.false, ← c.is_above.ensures, c.if-is_above.false)

pub stays_spec : {M : Type 1} → statement M
stays_spec =
    tie.close
    (tie.spec returns (λ c κs. search rules) returns-2 returns-3)
