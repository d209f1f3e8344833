-- What is printed lies within the line and the output; the lent memories keep their lengths. Assumes nothing.
use mathlib.Core.Path.{◌≡◌, refl, sym, ◌∙◌}
use Prim.Native.Nat.{ℕ, ◌-◌, ◌≤◌}
use native.Mathlib.Omega.{arith}
use borrow.Author.Rules.{rules}
use lib.ListN.{length}
use lib.Seq.{length-take-le}
use Rattle.replies.proofs.Putting.{fronts-inside}
use Rattle.compare_main.proofs.say_pairs.Statement.{statement}
use Rattle.compare_main.proofs.say_pairs.Tie as tie

abbrev invariant-loop : tie.invariant-loop-j
invariant-loop rt m n q work₀ out₀ line₀ j₀ work out line j = (j ≤ n) × (length work ≡ length work₀) × (length out ≡ length out₀) × (length line ≡ length line₀)

abbrev decreases-loop : tie.decreases-loop-j
decreases-loop rt m n q work₀ out₀ line₀ j₀ work out line j = n - j

loop-holds : tie.Need-loop-j-init invariant-loop decreases-loop
loop-holds c = (omega arith, refl, refl, refl)

cast-compare : tie.Need-overflow_cast-j invariant-loop decreases-loop
cast-compare c = omega (arith, c.requires.0)

compare-requires : tie.Need-compare-told-requires invariant-loop decreases-loop
compare-requires c κs =
    (c.requires.1 (omega arith), omega (arith, c.loop-j.invariant.3, c.requires.2))

slice-reshare-prefix-say : tie.Need-slice_bounds-say-end invariant-loop decreases-loop
slice-reshare-prefix-say c = omega (arith, fronts-inside c.compare-told.ensures.leaves.line-is)

slice-aggregate-say : tie.Need-slice_bounds-say-end-in-loop-j invariant-loop decreases-loop
slice-aggregate-say c =
    sym (length-take-le c.compare-told.result.line c.compare-told.new.line (fronts-inside c.compare-told.ensures.leaves.line-is))

slice-reshare-prefix-say-2 : tie.Need-slice_bounds-say-end-in-loop-j-2 invariant-loop decreases-loop
slice-reshare-prefix-say-2 c = omega (arith, fronts-inside c.compare-told.ensures.leaves.out-is)

slice-aggregate-say-2 : tie.Need-slice_bounds-say-end-in-loop-j-3 invariant-loop decreases-loop
slice-aggregate-say-2 c =
    sym (length-take-le c.compare-told.result.out c.compare-told.new.out (fronts-inside c.compare-told.ensures.leaves.out-is))

same_length : tie.Need-shape_of-work-then-told invariant-loop decreases-loop
same_length c = c.compare-told.auto.work ∙ c.loop-j.invariant.1

same-length-2 : tie.Need-shape_of-out-then-told invariant-loop decreases-loop
same-length-2 c = c.compare-told.auto.out ∙ c.loop-j.invariant.2

same-length-3 : tie.Need-shape_of-line-then-told invariant-loop decreases-loop
same-length-3 c = c.compare-told.auto.line ∙ c.loop-j.invariant.3

add-j : tie.Need-overflow_add-j invariant-loop decreases-loop
add-j c = omega (arith, c.loop-j-test)

loop-less : tie.Need-loop-j-smaller invariant-loop decreases-loop
loop-less c = omega (arith, c.loop-j-test)

loop-again : tie.Need-loop-j-preserved invariant-loop decreases-loop
loop-again c =
    let k = c.compare-told.auto in
    (omega (arith, c.loop-j-test), k.work ∙ c.loop-j.invariant.1, k.out ∙ c.loop-j.invariant.2, k.line ∙ c.loop-j.invariant.3)

same-length-4 : tie.Need-shape_of-work invariant-loop decreases-loop
same-length-4 c = c.loop-j.invariant.1

same-length-5 : tie.Need-shape_of-out invariant-loop decreases-loop
same-length-5 c = c.loop-j.invariant.2

same-length-6 : tie.Need-shape_of-line invariant-loop decreases-loop
same-length-6 c = c.loop-j.invariant.3

pub say_pairs_spec : {M : Type 1} → statement M
say_pairs_spec =
    tie.close
    (tie.spec invariant-loop decreases-loop loop-holds cast-compare compare-requires slice-reshare-prefix-say slice-aggregate-say (λ c κs. search rules) slice-reshare-prefix-say-2 slice-aggregate-say-2 (λ c κs. search rules) same_length same-length-2 same-length-3 (λ c. search rules) add-j loop-less loop-again same-length-4 same-length-5 same-length-6 (λ c. search rules))
