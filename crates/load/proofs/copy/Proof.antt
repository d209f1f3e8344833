-- `load::copy` meets its contract: after i turns the first i words are copied. Assumes nothing.
use mathlib.Core.Path.{◌≡◌, refl, ◌∙◌}
use Prim.Native.Nat.{◌-◌, ◌≤◌}
use native.Mathlib.Omega.{arith}
use lib.ListN.{length, length-set}
use Rattle.load.proofs.Copying.{copied, copy_more, copy_done}
use Rattle.load.proofs.copy.Statement.{statement}
use Rattle.load.proofs.copy.Tie as tie

abbrev invariant-loop : tie.invariant-loop-i
invariant-loop words n m₀ i₀ m i = (i ≤ n) × (m ≡ copied words m₀ i) × (length m ≡ length m₀)

abbrev decreases-loop : tie.decreases-loop-i
decreases-loop words n m₀ i₀ m i = n - i

loop-holds : tie.Need-loop-i-init invariant-loop decreases-loop
loop-holds c = (omega arith, refl, refl)

mul-m : tie.Need-offset_bounds-words-i invariant-loop decreases-loop
mul-m c = omega arith

shared-slice-read-m : tie.Need-bounds-words-i invariant-loop decreases-loop
shared-slice-read-m c = omega arith

mul-m-2 : tie.Need-offset_bounds-m-i invariant-loop decreases-loop
mul-m-2 c = omega arith

slice-write-m : tie.Need-bounds-m-i invariant-loop decreases-loop
slice-write-m c = omega arith

add-i : tie.Need-overflow_add-i invariant-loop decreases-loop
add-i c = omega arith

loop-less : tie.Need-loop-i-smaller invariant-loop decreases-loop
loop-less c = omega arith

loop-again : tie.Need-loop-i-preserved invariant-loop decreases-loop
loop-again c =
    let a = c.args in (
      omega arith,
      copy_more a.words.now a.m.now c.loop-i.i c.loop-i.invariant.1 (omega arith) (omega arith),
      length-set c.loop-i.m c.loop-i.i _ ∙ c.loop-i.invariant.2,
    )

same_length : tie.Need-shape_of-m invariant-loop decreases-loop
same_length c = c.loop-i.invariant.2

returns : tie.Need-returns invariant-loop decreases-loop
returns c =
    let a = c.args in
    copy_done a.words.now a.m.now c.loop-i.invariant.1 c.loop-i.invariant.0 c.loop-i-test.false

pub copy_spec : {M : Type 1} → statement M
copy_spec =
    tie.close
    (tie.spec invariant-loop decreases-loop loop-holds mul-m shared-slice-read-m mul-m-2 slice-write-m add-i loop-less loop-again same_length returns)
