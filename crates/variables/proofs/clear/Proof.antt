-- `clear` meets its contract: the words passed are 0. Assumes nothing.
use mathlib.Core.Path.{◌≡◌, refl, ◌∙◌}
use Prim.Native.Nat.{ℕ, ◌-◌, ◌<◌}
use native.Mathlib.Omega.{arith}
use lib.ListN.{length, get_or, length-set}
use Rattle.variables.proofs.Entries.{zeros-more, zeros-all}
use Rattle.variables.proofs.clear.Statement.{statement}
use Rattle.variables.proofs.clear.Tie as tie

abbrev invariant-loop : tie.invariant-loop-k
invariant-loop words₀ k₀ words k = (length words ≡ length words₀) × ((i : ℕ) → i < k → get_or words i 0 ≡ 0)

abbrev decreases-loop : tie.decreases-loop-k
decreases-loop words₀ k₀ words k = length words₀ - k

loop-holds : tie.Need-loop-k-init invariant-loop decreases-loop
loop-holds c = (refl, λ i l. absurd (omega arith))

mul_words : tie.Need-offset_bounds-words-k invariant-loop decreases-loop
mul_words c = omega arith

slice-write-words : tie.Need-bounds-words-k invariant-loop decreases-loop
slice-write-words c = omega arith

add-k : tie.Need-overflow_add-k invariant-loop decreases-loop
add-k c = omega arith

loop-less : tie.Need-loop-k-smaller invariant-loop decreases-loop
loop-less c = omega arith

loop-again : tie.Need-loop-k-preserved invariant-loop decreases-loop
loop-again c =
    (length-set c.loop-k.words c.loop-k.k 0 ∙ c.loop-k.invariant.0, zeros-more c.loop-k.words c.loop-k.k _ c.loop-k.invariant.1 (omega arith) refl)

same_length : tie.Need-shape_of-words invariant-loop decreases-loop
same_length c = c.loop-k.invariant.0

returns : tie.Need-returns invariant-loop decreases-loop
returns c =
    zeros-all c.loop-k.words _ c.loop-k.invariant.0 (λ i h. c.loop-k.invariant.1 i (omega arith))

pub clear_spec : {M : Type 1} → statement M
clear_spec = tie.close (tie.spec invariant-loop decreases-loop loop-holds mul_words slice-write-words add-k loop-less loop-again same_length returns)
