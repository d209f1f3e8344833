-- The values of inputs and free bits as the code finds them. Assumes nothing.
use mathlib.Core.Path.{◌≡◌, refl, sym, ap, ◌∙◌}
use mathlib.Core.Bool.{Bool, true, false, cond}
use mathlib.Core.List.{List}
use Prim.Native.Nat.{ℕ, ◌+◌, ◌-◌, ◌/◌, ◌%◌, ◌≤◌, ◌<◌}
use native.Mathlib.Omega.{arith}
use borrow.Author.Tests.{lt-ltb, le-ltb}
use lib.Dec.{ltb}
use lib.ListN.{length, get_or}
use Rattle.aiger.specs.Bits.{nonzero, bit}
use Rattle.aiger.specs.Frames.{free_bit}
use Rattle.aiger.proofs.Tests.{nonzero-bit}
use Rattle.transitions.specs.Transitions.{rank_in}
use Rattle.set_walk.specs.Walk.{bits_of}
use Rattle.set_attempt.specs.Bits.{input_value, free_value}

module _ (inputs : List ℕ) (r i k : ℕ) (e : k ≡ rank_in inputs i) where
  pub input-here : (w : ℕ) → k < length inputs → w ≡ cond (bit r (length inputs - (k + 1))) 1 0 → nonzero w ≡ input_value inputs r i
  unfolding input_value
  input-here w l q =
      ap nonzero q ∙ nonzero-bit (bit r (length inputs - (k + 1))) ∙ ap (λ (j : ℕ). bit r (length inputs - (j + 1))) e
      ∙ sym (ap (λ (b : Bool). cond b (free_bit (length inputs) r (rank_in inputs i)) false) (lt-ltb (rank_in inputs i) (length inputs) (omega arith)))

  pub input_none : length inputs ≤ k → nonzero 0 ≡ input_value inputs r i
  unfolding input_value
  input_none l = sym (ap (λ (b : Bool). cond b (free_bit (length inputs) r (rank_in inputs i)) false) (le-ltb (rank_in inputs i) (length inputs) (omega arith)))

module _ (frees bits inputs trace : List ℕ) (width j : ℕ) where
  pub free-start : (w : ℕ) → j < length frees → w ≡ get_or bits (get_or frees j 0) 0 → nonzero w ≡ free_value frees bits inputs trace width j
  unfolding free_value bits_of
  free-start w l q = ap nonzero q ∙ sym (ap (λ (b : Bool). cond b (bits_of bits (get_or frees j 0)) (input_value inputs (get_or trace ((j - length frees) / width) 0) ((j - length frees) % width))) (lt-ltb j (length frees) l))

  pub free-row : (w r : ℕ) → length frees ≤ j → r ≡ get_or trace ((j - length frees) / width) 0
      → nonzero w ≡ input_value inputs r ((j - length frees) % width) → nonzero w ≡ free_value frees bits inputs trace width j
  unfolding free_value
  free-row w r l q h =
      h ∙ ap (λ (x : ℕ). input_value inputs x ((j - length frees) % width)) q
      ∙ sym (ap (λ (b : Bool). cond b (bits_of bits (get_or frees j 0)) (input_value inputs (get_or trace ((j - length frees) / width) 0) ((j - length frees) % width)))
      (le-ltb j (length frees) l))
