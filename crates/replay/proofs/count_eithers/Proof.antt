-- `replay::count_eithers` meets its contract. Assumes nothing.
use mathlib.Core.Path.{◌≡◌, refl, sym, ap, ap₂, ◌∙◌}
use Prim.Native.Nat.{ℕ, ◌+◌, ◌-◌, ◌≤◌, ◌<◌}
use native.Mathlib.Omega.{arith}
use lib.ListN.{length, take, get_or}
use lib.Seq.{take_all}
use Rattle.completions.specs.Either.{is_either, eithers}
use Rattle.completions.proofs.Completions.{eithers-more, eithers-few, digit-few}
use Rattle.replay.proofs.count_eithers.Statement.{statement}
use Rattle.replay.proofs.count_eithers.Tie as tie

abbrev invariant-loop : tie.invariant-loop-i
invariant-loop text count₀ i₀ count i = (i ≤ length text) × (count ≡ eithers (take i text))

abbrev decreases-loop : tie.decreases-loop-i
decreases-loop text count₀ i₀ count i = length text - i

loop-holds : tie.Need-loop-i-init invariant-loop decreases-loop
loop-holds c = (omega arith, refl)

shared-slice-read-either-of : tie.Need-bounds-text-i invariant-loop decreases-loop
shared-slice-read-either-of c = omega arith

either-of-requires : tie.Need-either_of-count-requires invariant-loop decreases-loop
either-of-requires c κs = tt

add-count : tie.Need-overflow_add-count invariant-loop decreases-loop
add-count c =
    let text = c.args.text.now in
    omega (arith, c.loop-i.invariant.1, eithers-few c.loop-i.i text, c.either_of-count.ensures, digit-few (is_either (get_or text c.loop-i.i 0)))

add-i : tie.Need-overflow_add-i invariant-loop decreases-loop
add-i c = omega arith

loop-less : tie.Need-loop-i-smaller invariant-loop decreases-loop
loop-less c = omega arith

loop-again : tie.Need-loop-i-preserved invariant-loop decreases-loop
loop-again c =
    let text = c.args.text.now in
    (omega arith, ap₂ (λ (x y : ℕ). x + y) c.loop-i.invariant.1 c.either_of-count.ensures ∙ sym (eithers-more text c.loop-i.i))

returns : tie.Need-returns invariant-loop decreases-loop
returns c =
    let text = c.args.text.now in
    c.loop-i.invariant.1 ∙ ap eithers (take_all c.loop-i.i text (omega arith))

pub count_eithers_spec : {M : Type 1} → statement M
count_eithers_spec = tie.close (tie.spec invariant-loop decreases-loop loop-holds shared-slice-read-either-of either-of-requires add-count add-i loop-less loop-again returns)
