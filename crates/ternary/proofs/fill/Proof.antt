-- `ternary::fill` meets its contract. Assumes nothing.
use mathlib.Core.Path.{◌≡◌, refl, ◌∙◌}
use Prim.Native.Nat.{ℕ, ◌-◌, ◌≤◌, ◌<◌}
use native.Mathlib.Omega.{arith}
use lib.ListN.{length, get_or, length-set}
use Rattle.ternary.proofs.Entries.{filled-step, filled}
use borrow.Author.Rules.{rules}
use Rattle.ternary.proofs.fill.Statement.{statement}
use Rattle.ternary.proofs.fill.Tie as tie

abbrev invariant-loop : tie.invariant-loop-i
invariant-loop can₀ i₀ can i = (i ≤ length can) × (length can ≡ length can₀) × ((l : ℕ) → l < i → get_or can l 0 ≡ 1)

abbrev decreases-loop : tie.decreases-loop-i
decreases-loop can₀ i₀ can i = length can₀ - i

loop-holds : tie.Need-loop-i-init invariant-loop decreases-loop
loop-holds c = (omega arith, refl, λ l h. absurd (omega arith))

slice-write-can : tie.Need-bounds-can-i invariant-loop decreases-loop
slice-write-can c = omega arith

add-i : tie.Need-overflow_add-i invariant-loop decreases-loop
add-i c = omega arith

loop-less : tie.Need-loop-i-smaller invariant-loop decreases-loop
loop-less c = omega arith

loop-again : tie.Need-loop-i-preserved invariant-loop decreases-loop
loop-again c =
    let e = length-set c.loop-i.can c.loop-i.i 1 in
    (omega arith, e ∙ c.loop-i.invariant.1, filled-step c.loop-i.can c.loop-i.i (omega arith) c.loop-i.invariant.2)

same_length : tie.Need-shape_of-can invariant-loop decreases-loop
same_length c = c.loop-i.invariant.1

returns : tie.Need-returns invariant-loop decreases-loop
returns c =
    filled (length c.args.can.now) c.loop-i.can c.loop-i.invariant.1 (λ k h. c.loop-i.invariant.2 k (omega arith))

pub fill_spec : {M : Type 1} → statement M
fill_spec =
    tie.close
    (tie.spec invariant-loop decreases-loop loop-holds slice-write-can add-i loop-less loop-again same_length returns)
