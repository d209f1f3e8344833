-- `numbers::long_digit_count` meets its contract. The loop's invariant: the digits that are left, and those that are counted but for the last,
-- are those of n. The measure is the number that is left. Assumes nothing.
use mathlib.Core.Path.{◌≡◌, ap}
use Prim.Native.Nat.{◌+◌, ◌≤◌}
use native.Mathlib.Omega.{arith}
use lib.ListN.{length}
use Rattle.aiger.specs.Text.{long_digits}
use Rattle.numbers.proofs.Digits.{digits-most, up-to-one, long-more-length}
use Rattle.numbers.proofs.long_digit_count.Statement.{statement}
use Rattle.numbers.proofs.long_digit_count.Tie as tie

abbrev invariant-loop : tie.invariant-loop-rest
invariant-loop n count₀ rest₀ count rest = (rest ≤ n) × (length (long_digits n) + 1 ≡ count + length (long_digits rest))

abbrev decreases-loop : tie.decreases-loop-rest
decreases-loop n count₀ rest₀ count rest = rest

loop-holds : tie.Need-loop-rest-init invariant-loop decreases-loop
loop-holds c = (omega arith, omega arith)

add-count : tie.Need-overflow_add-count invariant-loop decreases-loop
add-count c = omega (arith, digits-most 19 c.args.n)

loop-less : tie.Need-loop-rest-smaller invariant-loop decreases-loop
loop-less c = omega arith

loop-again : tie.Need-loop-rest-preserved invariant-loop decreases-loop
loop-again c = (omega arith, omega (arith, long-more-length c.loop-rest.rest (omega arith) (omega arith)))

returns : tie.Need-returns invariant-loop decreases-loop
returns c = omega (arith, ap length (up-to-one 19 c.loop-rest.rest (omega arith)))

pub long_digit_count_spec : {M : Type 1} → statement M
long_digit_count_spec =
    tie.close (tie.spec invariant-loop decreases-loop loop-holds add-count loop-less loop-again returns)
