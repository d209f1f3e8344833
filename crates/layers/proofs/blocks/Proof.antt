-- `layers::blocks` meets its contract. Assumes nothing.
use mathlib.Core.Path.{◌≡◌, sym, ap, ◌∙◌}
use Prim.Native.Nat.{ℕ, ◌-◌, ◌^◌}
use native.Mathlib.Omega.{arith}
use lib.Pow.{pow_mono}
use borrow.Author.Rules.{rules}
use Rattle.layers.proofs.blocks.Statement.{statement}
use Rattle.layers.proofs.blocks.Tie as tie

returns : tie.Need-returns-then-inputs-lt6
returns c = let e : c.args.inputs - 6 ≡ 0 = omega arith in sym (ap (λ (n : ℕ). 2 ^ n) e)

returns-2 : tie.Need-returns
returns-2 c = omega (arith, pow_mono {i = c.args.inputs - 6} {j = 10} (omega arith))

pub blocks_spec : {M : Type 1} → statement M
blocks_spec = tie.close (tie.spec returns (λ c. search rules) returns-2)
