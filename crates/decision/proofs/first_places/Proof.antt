-- `decision::first_places` meets its contract. Assumes nothing.
use Prim.Native.Nat.{◌+◌}
use native.Mathlib.Nat.{mul_comm}
use native.Mathlib.Omega.{arith}
use borrow.Author.Tests.{le-leb, lt-leb}
use Rattle.limits.proofs.Sizes.{product_small}
use Rattle.decision.specs.Reach as R
use borrow.Author.Rules.{rules}
use Rattle.decision.proofs.first_places.Statement.{statement}
use Rattle.decision.proofs.first_places.Tie as tie
use Rattle.decision.proofs.first_places.Reads as reads
use Rattle.decision.proofs.first_places.Lts as lts

mul-if1 : tie.Need-overflow_mul-layout
mul-if1 c = omega (arith, product_small c.args.t c.args.layout.i (omega arith) (omega arith), mul_comm c.args.layout.i (c.args.t + 1))

add-if1-2 : tie.Need-overflow_add-layout
add-if1-2 c = omega (arith, product_small c.args.t c.args.layout.i (omega arith) (omega arith), mul_comm c.args.layout.i (c.args.t + 1))

returns : tie.Need-returns-then-layout-t-le12
unfolding R.first_places
returns c = (omega arith, omega arith, rw (le-leb _ 12 c.if-layout-t-le12.true))

returns-2 : tie.Need-returns-else-layout-t-le12
unfolding R.first_places
returns-2 c = (omega arith, omega arith, rw (lt-leb _ 12 c.if-layout-t-le12.false))

pub first_places_spec : {M : Type 1} → statement M
first_places_spec = tie.close (tie.spec (λ c. search rules) mul-if1 add-if1-2 returns returns-2)
