-- `learning::rank_two` meets its contract. Assumes nothing.
use borrow.Author.Tests.{le-ltb, lt-ltb}
use Rattle.learning.specs.Learning as Ln
use borrow.Author.Rules.{rules}
use Rattle.learning.proofs.rank_two.Statement.{statement}
use Rattle.learning.proofs.rank_two.Tie as tie

returns : tie.Need-returns-then-field
unfolding Ln.ranked_two
returns c = rw (← c.field.ensures, ← c.field-2.ensures, lt-ltb _ _ c.if-field.true)

returns-2 : tie.Need-returns
unfolding Ln.ranked_two
returns-2 c = rw (← c.field.ensures, ← c.field-2.ensures, le-ltb _ _ c.if-field.false)

pub rank_two_spec : {M : Type 1} → statement M
rank_two_spec = tie.close (tie.spec (λ c κs. search rules) (λ c κs. search rules) returns returns-2)
