-- `conjunction::larger` meets its contract. Assumes nothing.
use borrow.Author.Tests.{lt-ltb, le-ltb}
use borrow.Author.Rules.{rules}
use Rattle.conjunction.specs.Conjunction.{larger}
use Rattle.conjunction.proofs.larger.Statement.{statement}
use Rattle.conjunction.proofs.larger.Tie as tie

returns : tie.Need-returns-then-a-b
unfolding larger
returns c = rw (lt-ltb _ _ c.if-a-b.true)

returns-2 : tie.Need-returns
unfolding larger
returns-2 c = rw (le-ltb _ _ c.if-a-b.false)

pub larger_spec : {M : Type 1} → statement M
larger_spec =
    tie.close
    (tie.spec returns returns-2)
