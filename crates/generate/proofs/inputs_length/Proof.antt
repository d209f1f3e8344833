-- `generate::inputs_length` meets its contract. The loop's invariant: what is counted and the length of what is left are the whole length.
-- The measure is the number of inputs left. Assumes nothing.
use mathlib.Core.Path.{◌≡◌, refl, ap}
use Prim.Native.Nat.{ℕ, ◌+◌, ◌≤◌}
use native.Mathlib.Omega.{arith}
use borrow.Author.Rules.{rules}
use lib.ListN.{length}
use Rattle.generated.specs.Parts.{inputs_text}
use Rattle.generate.proofs.Lines.{inputs-longer, inputs-most, inputs-done}
use Rattle.generate.proofs.inputs_length.Statement.{statement}
use Rattle.generate.proofs.inputs_length.Tie as tie

abbrev invariant-loop : tie.invariant-loop-left
invariant-loop first n total₀ v₀ left₀ total v left =
    (v + left ≡ first + n) × (total + length (inputs_text v left) ≡ length (inputs_text first n))

abbrev decreases-loop : tie.decreases-loop-left
decreases-loop first n total₀ v₀ left₀ total v left = left

loop-holds : tie.Need-loop-left-init invariant-loop decreases-loop
loop-holds c = (refl, omega arith)

mul-digit-count : tie.Need-overflow_mul-v invariant-loop decreases-loop
mul-digit-count c = omega (arith, c.requires)

add_total : tie.Need-overflow_add-total invariant-loop decreases-loop
add_total c =
    let a = c.args in
    omega (arith, c.digit_count.ensures, inputs-longer c.loop-left.v c.loop-left.left c.loop-left-test.true, inputs-most a.first a.n)

add-total-2 : tie.Need-overflow_add-total-in-loop-left invariant-loop decreases-loop
add-total-2 c =
    let a = c.args in
    omega (arith, c.digit_count.ensures, inputs-longer c.loop-left.v c.loop-left.left c.loop-left-test.true, inputs-most a.first a.n)

add-v : tie.Need-overflow_add-v invariant-loop decreases-loop
add-v c = omega (arith, c.requires, c.loop-left.invariant.0)

sub-left : tie.Need-overflow_sub-left invariant-loop decreases-loop
sub-left c = omega (arith, c.loop-left-test.true)

loop-less : tie.Need-loop-left-smaller invariant-loop decreases-loop
loop-less c = omega (arith, c.loop-left-test.true)

loop-again : tie.Need-loop-left-preserved invariant-loop decreases-loop
loop-again c = (
  omega (arith, c.loop-left.invariant.0, c.loop-left-test.true),
  omega (arith, c.loop-left.invariant.1, c.digit_count.ensures, inputs-longer c.loop-left.v c.loop-left.left c.loop-left-test.true),
)

returns : tie.Need-returns invariant-loop decreases-loop
returns c =
    omega (arith, c.loop-left.invariant.1, ap length (inputs-done c.loop-left.v c.loop-left.left c.loop-left-test.false))

pub inputs_length_spec : {M : Type 1} → statement M
inputs_length_spec =
    tie.close
    (tie.spec invariant-loop decreases-loop loop-holds mul-digit-count (λ c κs. search rules) add_total add-total-2 add-v sub-left loop-less loop-again returns)
