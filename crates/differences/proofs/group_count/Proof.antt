-- `differences::group_count` meets its contract. Assumes nothing.
use native.Mathlib.Omega.{arith}
use Rattle.differences.proofs.Writing.{Counting, count-start, count-more, count-done}
use Rattle.differences.proofs.group_count.Statement.{statement}
use Rattle.differences.proofs.group_count.Tie as tie

abbrev invariant-loop : tie.invariant-loop-rest
invariant-loop n count₀ rest₀ count rest = Counting n count rest

abbrev decreases-loop : tie.decreases-loop-rest
decreases-loop n count₀ rest₀ count rest = rest

loop-holds : tie.Need-loop-rest-init invariant-loop decreases-loop
loop-holds c = count-start c.args.n (omega arith)

add-count : tie.Need-overflow_add-count invariant-loop decreases-loop
add-count c = omega (arith, c.loop-rest.invariant.few)

loop-less : tie.Need-loop-rest-smaller invariant-loop decreases-loop
loop-less c = omega arith

loop-again : tie.Need-loop-rest-preserved invariant-loop decreases-loop
loop-again c = count-more c.loop-rest.invariant c.loop-rest-test.true

returns : tie.Need-returns invariant-loop decreases-loop
returns c = count-done c.loop-rest.invariant c.loop-rest-test.false

pub group_count_spec : {M : Type 1} → statement M
group_count_spec =
    tie.close (tie.spec invariant-loop decreases-loop loop-holds add-count loop-less loop-again returns)
