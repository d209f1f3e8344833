-- `memory::set_field` meets its contract. Assumes nothing.
use borrow.Author.Tests.{le-leb, lt-leb}
use Rattle.memory.specs.Record as R
use borrow.Author.Rules.{rules}
use Rattle.memory.proofs.set_field.Statement.{statement}
use Rattle.memory.proofs.set_field.Tie as tie

returns : tie.Need-returns-then-nodes-v
unfolding R.stored
returns c = rw (le-leb _ _ c.if-nodes-v.true)

returns-2 : tie.Need-returns
unfolding R.stored
returns-2 c =
    rw (
      ← c.place.ensures,
      lt-leb _ _ c.if-nodes-v.false,
    ) c.put.ensures

pub set_field_spec : {M : Type 1} → statement M
set_field_spec = tie.close (tie.spec returns (λ c κs. search rules) (λ c κs. search rules) (λ c. search rules) returns-2)
