-- `memory::head_place` meets its contract. Assumes nothing.
use borrow.Author.Tests.{le-ltb, lt-ltb}
use Rattle.memory.specs.Record as R
use native.Mathlib.Omega.{arith}
use borrow.Author.Rules.{rules}
use Rattle.memory.proofs.head_place.Statement.{statement}
use Rattle.memory.proofs.head_place.Tie as tie

returns : tie.Need-returns-then-up-down
unfolding R.head_place
returns c = omega arith

returns-2 : tie.Need-returns-else-up-down
unfolding R.head_place
returns-2 c = omega arith

pub head_place_spec : {M : Type 1} → statement M
head_place_spec = tie.close (tie.spec (λ c. search rules) (λ c. search rules) (λ c. search rules) returns returns-2)
