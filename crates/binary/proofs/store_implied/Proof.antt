-- `binary::store_implied` meets its contract: what is stored, and then the rest, is the whole. Assumes nothing.
use native.Mathlib.Omega.{arith}
use mathlib.Core.Path.{refl}
use Rattle.binary.proofs.Implied.{Storing, start, more, end}
use Rattle.binary.proofs.store_implied.Statement.{statement}
use Rattle.binary.proofs.store_implied.Tie as tie

abbrev invariant-loop : tie.invariant-loop-left
invariant-loop out₀ from v n var₀ to₀ left₀ out var to left = Storing out₀ from v n out var to left

abbrev decreases-loop : tie.decreases-loop-left
decreases-loop out₀ from v n var₀ to₀ left₀ out var to left = left

loop-holds : tie.Need-loop-left-init invariant-loop decreases-loop
loop-holds c = start _ _ _ _ c.requires.0 c.requires.1

mul-out : tie.Need-overflow_mul-out invariant-loop decreases-loop
mul-out c = omega (arith, c.loop-left.invariant.low)

mul-out-2 : tie.Need-offset_bounds-out-to invariant-loop decreases-loop
mul-out-2 c = omega (arith, c.loop-left.invariant.low)

slice-write-out : tie.Need-bounds-out-to invariant-loop decreases-loop
slice-write-out c = omega (arith, c.loop-left.invariant.room, c.loop-left.invariant.kept)

add-var : tie.Need-overflow_add-var invariant-loop decreases-loop
add-var c = omega (arith, c.loop-left.invariant.low)

add-to : tie.Need-overflow_add-to invariant-loop decreases-loop
add-to c = omega (arith, c.loop-left.invariant.room, c.loop-left.invariant.kept)

sub-left : tie.Need-overflow_sub-left invariant-loop decreases-loop
sub-left c = omega arith

loop-less : tie.Need-loop-left-smaller invariant-loop decreases-loop
loop-less c = omega arith

loop-again : tie.Need-loop-left-preserved invariant-loop decreases-loop
loop-again c = more c.loop-left.invariant c.loop-left-test.true _ refl

same_length : tie.Need-shape_of-out invariant-loop decreases-loop
same_length c = c.loop-left.invariant.kept

returns : tie.Need-returns invariant-loop decreases-loop
returns c = end c.loop-left.invariant c.loop-left-test.false c.requires.0

pub store_implied_spec : {M : Type 1} → statement M
store_implied_spec =
    tie.close
    (tie.spec invariant-loop decreases-loop loop-holds mul-out mul-out-2 slice-write-out add-var add-to sub-left loop-less loop-again same_length returns)
