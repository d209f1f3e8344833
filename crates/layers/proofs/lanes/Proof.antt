-- `layers::lanes` meets its contract. Assumes nothing.
use Prim.Native.Nat.{ℕ, ◌-◌, ◌^◌}
use native.Mathlib.Omega.{arith}
use lib.Pow.{pow_mono}
use borrow.Author.Rules.{rules}
use Rattle.layers.proofs.lanes.Statement.{statement}
use Rattle.layers.proofs.lanes.Tie as tie

returns : tie.Need-returns-then-inputs-gt5
returns c = omega (arith, pow_mono {i = 6} {j = c.args.inputs} (omega arith))

returns-2 : tie.Need-returns
returns-2 c = omega (arith, pow_mono {i = c.args.inputs} {j = 5} (omega arith))

pub lanes_spec : {M : Type 1} → statement M
lanes_spec = tie.close (tie.spec returns (λ c. search rules) (λ c. search rules) returns-2)
