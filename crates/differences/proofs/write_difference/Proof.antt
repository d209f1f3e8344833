-- `differences::write_difference` meets its contract. Assumes nothing.
use mathlib.Core.Path.{◌≡◌, refl, sym, ◌∙◌}
use native.Mathlib.Omega.{arith}
use lib.ListN.{length, take-append-drop, length-set}
use Rattle.differences.proofs.Writing.{Written, write-start, inside, write-more, write_done}
use Rattle.differences.proofs.write_difference.Statement.{statement}
use Rattle.differences.proofs.write_difference.Tie as tie

abbrev invariant-loop : tie.invariant-loop-rest
invariant-loop out₀ at n end₀ rest₀ out end rest = Written out₀ at n out end rest × (length out ≡ length out₀)

abbrev decreases-loop : tie.decreases-loop-rest
decreases-loop out₀ at n end₀ rest₀ out end rest = rest

loop-holds : tie.Need-loop-rest-init invariant-loop decreases-loop
loop-holds c =
    let a = c.args in
    (write-start a.out.now a.at a.n (omega arith) (sym (take-append-drop a.at a.out.now)), refl)

add-out : tie.Need-overflow_add-out invariant-loop decreases-loop
add-out c = omega arith

cast-out : tie.Need-overflow_cast-out invariant-loop decreases-loop
cast-out c = omega arith

slice-write-out : tie.Need-bounds-out-end invariant-loop decreases-loop
slice-write-out c = omega (arith, inside c.loop-rest.invariant.0 c.requires, c.loop-rest.invariant.1)

add-end : tie.Need-overflow_add-end invariant-loop decreases-loop
add-end c = omega (arith, inside c.loop-rest.invariant.0 c.requires, c.loop-rest.invariant.1)

loop-less : tie.Need-loop-rest-smaller invariant-loop decreases-loop
loop-less c = omega arith

loop-again : tie.Need-loop-rest-preserved invariant-loop decreases-loop
loop-again c =
    (write-more c.loop-rest.invariant.0 c.requires c.loop-rest-test.true _ (omega arith), length-set c.loop-rest.out c.loop-rest.end _ ∙ c.loop-rest.invariant.1)

cast-out-2 : tie.Need-overflow_cast-out-2 invariant-loop decreases-loop
cast-out-2 c = omega arith

slice-write-out-2 : tie.Need-bounds-out-end-2 invariant-loop decreases-loop
slice-write-out-2 c = omega (arith, inside c.loop-rest.invariant.0 c.requires, c.loop-rest.invariant.1)

add-result : tie.Need-overflow_add-result invariant-loop decreases-loop
add-result c = omega (arith, inside c.loop-rest.invariant.0 c.requires, c.loop-rest.invariant.1)

same_length : tie.Need-shape_of-out invariant-loop decreases-loop
same_length c = length-set c.loop-rest.out c.loop-rest.end _ ∙ c.loop-rest.invariant.1

returns : tie.Need-returns invariant-loop decreases-loop
returns c = write_done c.loop-rest.invariant.0 c.requires c.loop-rest-test.false _ (omega arith)

pub write_difference_spec : {M : Type 1} → statement M
write_difference_spec =
    tie.close
    (tie.spec invariant-loop decreases-loop loop-holds add-out cast-out slice-write-out add-end loop-less loop-again cast-out-2 slice-write-out-2 add-result same_length returns)
