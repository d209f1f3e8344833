-- `load::clear` meets its contract: the words passed are 0. Assumes nothing.
use mathlib.Core.Path.{◌≡◌, refl, ◌∙◌}
use Prim.Native.Nat.{◌-◌, ◌≤◌}
use native.Mathlib.Omega.{arith}
use lib.ListN.{length, length-set}
use Rattle.load.proofs.Copying.{cleared, clear_none, clear-more, clear-done}
use Rattle.load.proofs.clear.Statement.{statement}
use Rattle.load.proofs.clear.Tie as tie

abbrev invariant-loop : tie.invariant-loop-i
invariant-loop m₀ from to i₀ m i = (from ≤ i) × (i ≤ to) × (m ≡ cleared m₀ from i) × (length m ≡ length m₀)

abbrev decreases-loop : tie.decreases-loop-i
decreases-loop m₀ from to i₀ m i = to - i

loop-holds : tie.Need-loop-i-init invariant-loop decreases-loop
loop-holds c = (omega arith, omega arith, clear_none c.args.m.now c.args.from, refl)

mul-m : tie.Need-offset_bounds-m-i invariant-loop decreases-loop
mul-m c = omega arith

slice-write-m : tie.Need-bounds-m-i invariant-loop decreases-loop
slice-write-m c = omega arith

add-i : tie.Need-overflow_add-i invariant-loop decreases-loop
add-i c = omega arith

loop-less : tie.Need-loop-i-smaller invariant-loop decreases-loop
loop-less c = omega arith

loop-again : tie.Need-loop-i-preserved invariant-loop decreases-loop
loop-again c =
    let a = c.args in (
      omega arith,
      omega arith,
      clear-more a.m.now a.from c.loop-i.i c.loop-i.invariant.2 (omega arith) (omega arith),
      length-set c.loop-i.m c.loop-i.i 0 ∙ c.loop-i.invariant.3,
    )

same_length : tie.Need-shape_of-m invariant-loop decreases-loop
same_length c = c.loop-i.invariant.3

returns : tie.Need-returns invariant-loop decreases-loop
returns c =
    let a = c.args in
    clear-done a.m.now a.from c.loop-i.invariant.2 c.loop-i.invariant.1 c.loop-i-test.false

pub clear_spec : {M : Type 1} → statement M
clear_spec =
    tie.close
    (tie.spec invariant-loop decreases-loop loop-holds mul-m slice-write-m add-i loop-less loop-again same_length returns)
