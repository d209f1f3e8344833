-- `answer_places::put` meets its contract: after i turns the first i places are written. Assumes nothing.
use mathlib.Core.Path.{◌≡◌, refl, ◌∙◌}
use Prim.Native.Nat.{◌-◌, ◌≤◌, min}
use native.Mathlib.Omega.{arith}
use borrow.Author.Rules.{rules}
use lib.ListN.{length, length-set}
use Rattle.answer_places.proofs.Copying.{written, more, whole}
use Rattle.answer_places.proofs.put.Statement.{statement}
use Rattle.answer_places.proofs.put.Tie as tie

abbrev invariant-loop : tie.invariant-loop-i
invariant-loop row answer₀ count i₀ answer i =
    (i ≤ count) × (count ≡ min (length row) (length answer₀)) × (answer ≡ written row answer₀ i) × (length answer ≡ length answer₀)

abbrev decreases-loop : tie.decreases-loop-i
decreases-loop row answer₀ count i₀ answer i = count - i

loop-holds : tie.Need-loop-i-init invariant-loop decreases-loop
loop-holds c = (omega arith, c.smaller-count.ensures, refl, refl)

mul-answer : tie.Need-offset_bounds-row-i invariant-loop decreases-loop
mul-answer c = omega arith

shared-slice-read-answer : tie.Need-bounds-row-i invariant-loop decreases-loop
shared-slice-read-answer c = omega arith

mul-answer-2 : tie.Need-offset_bounds-answer-i invariant-loop decreases-loop
mul-answer-2 c = omega arith

slice-write-answer : tie.Need-bounds-answer-i invariant-loop decreases-loop
slice-write-answer c = omega arith

add-i : tie.Need-overflow_add-i invariant-loop decreases-loop
add-i c = omega arith

loop-less : tie.Need-loop-i-smaller invariant-loop decreases-loop
loop-less c = omega arith

loop-again : tie.Need-loop-i-preserved invariant-loop decreases-loop
loop-again c =
    let a = c.args in
    (omega arith, c.loop-i.invariant.1, more a.row.now a.answer.now c.loop-i.i c.loop-i.invariant.2 (omega (arith, c.loop-i.invariant.1)) (omega (arith, c.loop-i.invariant.1)), length-set c.loop-i.answer c.loop-i.i _ ∙ c.loop-i.invariant.3)

same_length : tie.Need-shape_of-answer invariant-loop decreases-loop
same_length c = c.loop-i.invariant.3

returns : tie.Need-returns invariant-loop decreases-loop
returns c =
    let a = c.args in
    c.loop-i.invariant.2 ∙ whole a.row.now a.answer.now c.loop-i.i (omega (arith, c.loop-i.invariant.1)) (omega (arith, c.loop-i.invariant.1)) (λ p q. omega (arith, c.loop-i.invariant.1))

pub put_spec : {M : Type 1} → statement M
put_spec =
    tie.close
    (tie.spec invariant-loop decreases-loop (λ c κs. search rules) loop-holds mul-answer shared-slice-read-answer mul-answer-2 slice-write-answer add-i loop-less loop-again same_length returns)
