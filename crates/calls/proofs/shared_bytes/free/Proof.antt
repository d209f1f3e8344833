-- `calls::shared_bytes::free` meets its contract. Assumes nothing.
use mathlib.Core.Path.{refl}
use Prim.Native.Nat.{◌-◌, ◌≤◌}
use native.Mathlib.Nat.{not-suc-le-zero}
use native.Mathlib.Omega.{arith}
use borrow.Author.Rules.{rules}
use lib.ListN.{length}
use Rattle.calls.proofs.Pins.{Freed, freed-more, freed-all}
use Rattle.calls.proofs.shared_bytes.free.Statement.{statement}
use Rattle.calls.proofs.shared_bytes.free.Tie as tie

abbrev invariant-loop : tie.invariant-loop-i
invariant-loop shared₀ i₀ shared i = (i ≤ length shared₀) × Freed shared₀ shared i

abbrev decreases-loop : tie.decreases-loop-i
decreases-loop shared₀ i₀ shared i = length shared₀ - i

loop-holds : tie.Need-loop-i-init invariant-loop decreases-loop
loop-holds c = (omega arith, (refl, λ k h. absurd (not-suc-le-zero h)))

slice-write-shared : tie.Need-bounds-shared-i invariant-loop decreases-loop
slice-write-shared c = omega arith

add-i : tie.Need-overflow_add-i invariant-loop decreases-loop
add-i c = omega arith

loop-less : tie.Need-loop-i-smaller invariant-loop decreases-loop
loop-less c = omega arith

loop-again : tie.Need-loop-i-preserved invariant-loop decreases-loop
loop-again c = (
  omega arith,
  freed-more c.args.shared.now c.loop-i.shared c.loop-i.i c.free_byte.result c.free_byte.ensures
      c.loop-i.invariant.1 (omega (arith, c.loop-i.invariant.1.0)),
)

same_length : tie.Need-shape_of-shared invariant-loop decreases-loop
same_length c = c.loop-i.invariant.1.0

returns : tie.Need-returns invariant-loop decreases-loop
returns c =
    freed-all c.args.shared.now c.loop-i.shared c.loop-i.i c.loop-i.invariant.1 (omega arith)

pub free_spec : {M : Type 1} → statement M
free_spec =
    tie.close
    (tie.spec invariant-loop decreases-loop loop-holds (λ c κs. search rules) slice-write-shared add-i loop-less loop-again same_length returns)
