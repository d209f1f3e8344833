-- `learning::target` meets its contract. Assumes nothing.
use borrow.Author.Tests.{le-ltb, lt-ltb}
use Rattle.learning.specs.Learning as Ln
use Rattle.learning.proofs.target.Goals as goal

pub returns-then-to-level : goal.returns-then-to-level
unfolding Ln.target
returns-then-to-level c = rw (← c.field-to.ensures, lt-ltb _ _ c.if-to-level.true)

pub returns : goal.returns
unfolding Ln.target
returns c = rw (← c.field-to.ensures, le-ltb _ _ c.if-to-level.false) c.saturating_sub.ensures
