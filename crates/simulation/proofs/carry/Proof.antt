use mathlib.Core.Path.{◌≡◌, ◌∙◌}
use Prim.Native.Nat.{ℕ, ◌+◌, ◌-◌, ◌*◌, ◌/◌, ◌%◌, ◌^◌, ◌≤◌, ◌<◌}
use native.Mathlib.Nat.{div-one}
use native.Mathlib.Omega.{arith}
use Rattle.simulation.proofs.Slots.{carried-half, carried}
use borrow.Author.Rules.{rules}
use Rattle.simulation.proofs.carry.Statement.{statement}
use Rattle.simulation.proofs.carry.Tie as tie
use Rattle.simulation.proofs.carry.Reads as reads
use Rattle.simulation.proofs.carry.Lts as lts

abbrev invariant-loop : tie.invariant-loop-b
invariant-loop block b₀ i₀ b i = (block / 2 ^ i ≡ b) × ((block + 1) / 2 ^ i ≡ b + 1) × (i + b ≤ block)

abbrev decreases-loop : tie.decreases-loop-b
decreases-loop block b₀ i₀ b i = b

loop-holds : tie.Need-loop-b-init invariant-loop decreases-loop
loop-holds c = let a = c.args.block in (div-one a, div-one (a + 1), omega arith)

add-i : tie.Need-overflow_add-i invariant-loop decreases-loop
add-i c = omega arith

loop-less : tie.Need-loop-b-smaller invariant-loop decreases-loop
loop-less c = omega arith

loop-again : tie.Need-loop-b-preserved invariant-loop decreases-loop
loop-again c =
    let q : (c.loop-b.b + 1) / 2 ≡ c.loop-b.b / 2 + 1 = omega arith in
    (carried-half c.args.block c.loop-b.b c.loop-b.i c.loop-b.invariant.0, carried-half (c.args.block + 1) (c.loop-b.b + 1) c.loop-b.i c.loop-b.invariant.1 ∙ q, omega arith)

returns : tie.Need-returns invariant-loop decreases-loop
returns c =
    carried c.args.block c.loop-b.b c.loop-b.i c.loop-b.invariant.0 c.loop-b.invariant.1 (λ e. omega arith)

pub carry_spec : {M : Type 1} → statement M
carry_spec = tie.close (tie.spec invariant-loop decreases-loop loop-holds add-i loop-less loop-again returns)
