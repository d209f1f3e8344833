-- `memory::field` meets its contract. Assumes nothing.
use borrow.Author.Tests.{le-leb, lt-leb}
use Rattle.memory.specs.Record as R
use borrow.Author.Rules.{rules}
use Rattle.memory.proofs.field.Statement.{statement}
use Rattle.memory.proofs.field.Tie as tie

returns : tie.Need-returns-then-nodes-v
unfolding R.field
returns c = rw (le-leb _ _ c.if-nodes-v.true)

returns-2 : tie.Need-returns
unfolding R.field
returns-2 c = rw (← c.place.ensures, lt-leb _ _ c.if-nodes-v.false) c.get.ensures

pub field_spec : {M : Type 1} → statement M
field_spec = tie.close (tie.spec returns (λ c κs. search rules) (λ c κs. search rules) returns-2)
