-- `generate::choose` meets its contract: the upper 32 bits of the draw, modulo n. Assumes nothing.
use Prim.Native.Nat.{ℕ, ◌/◌, ◌^◌}
use mathlib.Core.Path.{ap}
use native.Mathlib.Nat.{mod-lt}
use native.Mathlib.Omega.{arith}
use borrow.Author.Rules.{rules}
use Rattle.generator.specs.declared.Draw.{Draw}
use Rattle.generated.specs.Generated.{picked}
use Rattle.generate.specs.declared.Choice.{Choice}
use Rattle.generate.proofs.choose.Statement.{statement}
use Rattle.generate.proofs.choose.Tie as tie

cast-literal : tie.Need-overflow_cast-literal-2
cast-literal c =
    omega (arith, mod-lt (c.draw-drawn.result.value / 2 ^ 32) c.requires)

returns : tie.Need-returns
returns c = ap (λ (d : Draw). record { literal = picked c.args.n d.value; generator = d.generator }) c.draw-drawn.ensures

pub choose_spec : {M : Type 1} → statement M
choose_spec =
    tie.close
    (tie.spec (λ c κs. search rules) (λ c. search rules) cast-literal returns)
