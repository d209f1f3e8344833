-- `write::row_length` meets its contract. The loop's invariant: what is counted and the length of what is left are the row's length.
-- The measure is the number of words left. Assumes nothing.
use mathlib.Core.Path.{◌≡◌, ap}
use Prim.Native.Nat.{◌+◌, ◌≤◌}
use native.Mathlib.Omega.{arith}
use lib.ListN.{length}
use Rattle.output.specs.Row.{row_text}
use Rattle.output.proofs.Row.{row-longer, row-none, row-most}
use borrow.Author.Rules.{rules}
use Rattle.write.proofs.row_length.Statement.{statement}
use Rattle.write.proofs.row_length.Tie as tie

abbrev invariant-loop : tie.invariant-loop-left
invariant-loop m first n total₀ p₀ left₀ total p left = (p + left ≤ length m) × (total + length (row_text m p left) ≡ length (row_text m first n))

abbrev decreases-loop : tie.decreases-loop-left
decreases-loop m first n total₀ p₀ left₀ total p left = left

loop-holds : tie.Need-loop-left-init invariant-loop decreases-loop
loop-holds c = (omega arith, omega arith)

shared-slice-read-digit-count : tie.Need-bounds-m-p invariant-loop decreases-loop
shared-slice-read-digit-count c = omega arith

digit-count-requires : tie.Need-digit_count-requires invariant-loop decreases-loop
digit-count-requires c κs = tt

add_total : tie.Need-overflow_add-total invariant-loop decreases-loop
add_total c =
    omega (arith, row-longer c.args.m.now c.loop-left.p c.loop-left.left c.loop-left-test.true, row-most c.args.m.now c.args.first c.args.n, c.digit_count.ensures)

add-total-2 : tie.Need-overflow_add-total-in-loop-left invariant-loop decreases-loop
add-total-2 c =
    omega (arith, row-longer c.args.m.now c.loop-left.p c.loop-left.left c.loop-left-test.true, row-most c.args.m.now c.args.first c.args.n, c.digit_count.ensures)

add-p : tie.Need-overflow_add-p invariant-loop decreases-loop
add-p c = omega arith

sub-left : tie.Need-overflow_sub-left invariant-loop decreases-loop
sub-left c = omega arith

loop-less : tie.Need-loop-left-smaller invariant-loop decreases-loop
loop-less c = omega arith

loop-again : tie.Need-loop-left-preserved invariant-loop decreases-loop
loop-again c =
    (omega arith, omega (arith, row-longer c.args.m.now c.loop-left.p c.loop-left.left c.loop-left-test.true, c.digit_count.ensures))

returns : tie.Need-returns invariant-loop decreases-loop
returns c =
    omega (arith, ap length (row-none c.args.m.now c.loop-left.p c.loop-left.left c.loop-left-test.false))

pub row_length_spec : {M : Type 1} → statement M
row_length_spec =
    tie.close
    (tie.spec invariant-loop decreases-loop loop-holds (λ c. search rules) shared-slice-read-digit-count digit-count-requires add_total add-total-2 add-p sub-left loop-less loop-again returns)
