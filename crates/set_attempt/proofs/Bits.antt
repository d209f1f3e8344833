-- The free bits of a sequence that is made of a start place and rows. Assumes nothing.
use mathlib.Core.Path.{◌≡◌, refl, sym, ap, ◌∙◌, subst}
use mathlib.Core.Bool.{Bool, true, false, cond}
use mathlib.Core.List.{List}
use Prim.Native.Nat.{ℕ, zero, suc, ◌+◌, ◌-◌, ◌*◌, ◌/◌, ◌%◌, ◌^◌, ◌≤◌, ◌<◌}
use native.Mathlib.Nat.{mul-suc, mul-le-mul_left, mod-lt, div-add-mod'}
use native.Mathlib.Decide.{dec_lt, ℕ_discrete}
use native.Mathlib.Omega.{arith}
use borrow.Author.Tests.{lt-ltb, le-ltb, ltb-true, ltb-false}
use lib.Dec.{ltb}
use lib.ListN.{length, get_or}
use Rattle.aiger.specs.Bits.{bit}
use Rattle.aiger.specs.Frames.{free_bit}
use Rattle.aiger.proofs.Tests.{T_true}
use Rattle.words.proofs.Bits.{join-low, join-high}
use Rattle.machine.specs.Machine.{Machine}
use Rattle.influence.specs.Cone.{kept_below}
use Rattle.influence.proofs.Kept.{chosen}
use Rattle.transitions.specs.Transitions.{rank_in}
use Rattle.diagram_rows.specs.Inputs.{wide_row}
use Rattle.diagram_rows.proofs.Inputs.{wide-same, wide-zero, wide_below}
use Rattle.set_walk.specs.Walk.{bits_of, prefix_by}
use Rattle.set_stage.proofs.Starts.{rank-found, rank_below}
use Rattle.set_attempt.specs.Bits.{input_value, free_value}

module _ (m : Machine) (free width : ℕ) (rows_are : m.rows ≡ 2 ^ width) (first : ℕ → ℕ) (y : ℕ) (trace : List ℕ) where
  abbrev prefix : ℕ → ℕ
  prefix f = prefix_by m first y trace f

  more : (f : ℕ) → prefix_by m first y trace (suc f) ≡ prefix_by m first y trace f * 2 ^ width + first (get_or trace f 0)
  unfolding prefix_by
  more f = ap (λ (n : ℕ). prefix_by m first y trace f * n + first (get_or trace f 0)) rows_are

  none : prefix_by m first y trace 0 ≡ y
  unfolding prefix_by
  none = refl

  -- one row more leaves the bits before it
  early-bit : (f j : ℕ) → first (get_or trace f 0) < 2 ^ width → j < free + width * f
      → free_bit (free + width * suc f) (prefix_by m first y trace (suc f)) j ≡ free_bit (free + width * f) (prefix_by m first y trace f) j
  early-bit f j small l =
      let s = mul-suc width f in
      let k = free + width * suc f - (j + 1) in
      let e : k - width ≡ free + width * f - (j + 1) = omega arith in
      ap (λ (x : ℕ). bit x k) (more f) ∙ join-high width (prefix f) (first (get_or trace f 0)) k small (omega arith) ∙ ap (bit (prefix f)) e

  -- and has its own after them
  last_bit : (f i : ℕ) → i < width
      → free_bit (free + width * suc f) (prefix_by m first y trace (suc f)) (free + width * f + i) ≡ free_bit width (first (get_or trace f 0)) i
  last_bit f i l =
      let s = mul-suc width f in
      let k = free + width * suc f - (free + width * f + i + 1) in
      let e : k ≡ width - (i + 1) = omega arith in
      ap (λ (x : ℕ). bit x k) (more f) ∙ join-low width (prefix f) (first (get_or trace f 0)) k (omega arith) ∙ ap (bit (first (get_or trace f 0))) e

  -- the free bits of the start place
  pub start-bits : (f : ℕ) → ((u : ℕ) → u < f → first (get_or trace u 0) < 2 ^ width) → (j : ℕ) → j < free
      → free_bit (free + width * f) (prefix_by m first y trace f) j ≡ free_bit free y j
  start-bits zero small j l =
      let e : free + width * 0 - (j + 1) ≡ free - (j + 1) = omega arith in
      ap (λ (x : ℕ). bit x (free + width * 0 - (j + 1))) none ∙ ap (bit y) e
  start-bits (suc f) small j l =
      early-bit f j (small f (omega arith)) (omega arith) ∙ start-bits f (λ u h. small u (omega arith)) j l

  -- the free bits of frame u are those of its row
  pub row-bits : (f : ℕ) → ((u : ℕ) → u < f → first (get_or trace u 0) < 2 ^ width) → (u i : ℕ) → u < f → i < width
      → free_bit (free + width * f) (prefix_by m first y trace f) (free + width * u + i) ≡ free_bit width (first (get_or trace u 0)) i
  row-bits zero small u i l h = absurd (omega arith)
  row-bits (suc f) small u i l h = elim (ℕ_discrete u f) [
    | yes e ↦ subst (λ (v : ℕ). free_bit (free + width * suc f) (prefix_by m first y trace (suc f)) (free + width * v + i) ≡ free_bit width (first (get_or trace v 0)) i) (sym e) (last_bit f i h)
    | no e ↦
        let k : suc u ≤ f = omega arith in
        let s : width * suc u ≤ width * f = mul-le-mul_left width k in
        early-bit f (free + width * u + i) (small f (omega arith)) (omega (arith, mul-suc width u))
        ∙ row-bits f (λ v d. small v (omega arith)) u i (omega arith) h
  ]

-- ---- the inputs that matter

module _ (matters : ℕ → Bool) (n r : ℕ) where
  abbrev inputs : List ℕ
  inputs = kept_below matters n

  -- an input's value in a row of the inputs that matter is its bit in the least row of all inputs with these bits
  pub input-bit : (i : ℕ) → i < n → free_bit n (wide_row matters n r) i ≡ input_value (kept_below matters n) r i
  unfolding input_value
  input-bit i l = go (ltb (rank_in inputs i) (length inputs)) refl
    where
      unmarked : length (kept_below matters n) ≤ rank_in (kept_below matters n) i → (b : Bool) → matters i ≡ b → matters i ≡ false
      unmarked h false e = e
      unmarked h true e =
          let f = (chosen matters n).there i l (T_true e) in
          absurd (omega (arith, subst (λ (j : ℕ). rank_in inputs j < length inputs) f.2 (rank_below inputs f.0 f.1)))

      go : (b : Bool) → ltb (rank_in (kept_below matters n) i) (length (kept_below matters n)) ≡ b
          → free_bit n (wide_row matters n r) i ≡ cond b (free_bit (length (kept_below matters n)) r (rank_in (kept_below matters n) i)) false
      go true e =
          let k = ltb-true (rank_in inputs i) (length inputs) e in
          ap (free_bit n (wide_row matters n r)) (sym (rank-found inputs i k)) ∙ (wide-same matters n r).bits (rank_in inputs i) k
      go false e = wide-zero matters n r i l (unmarked (ltb-false (rank_in inputs i) (length inputs) e) (matters i) refl)

-- ---- all free bits

module _ (m : Machine) (width : ℕ) (rows_are : m.rows ≡ 2 ^ width) (matters : ℕ → Bool) (frees bits trace : List ℕ) (y : ℕ)
    (starting : (u : ℕ) → u < length frees → free_bit (length frees) y u ≡ bits_of bits (get_or frees u 0)) where
  -- the free bits of the sequence with start place y and the rows of f frames
  pub free-bits : (f j : ℕ) → j < length frees + width * f
      → free_value frees bits (kept_below matters width) trace width j ≡ free_bit (length frees + width * f) (prefix_by m (wide_row matters width) y trace f) j
  unfolding free_value
  free-bits f j l = elim (dec_lt j (length frees)) [
    | yes d ↦
        ap (λ (b : Bool). cond b (bits_of bits (get_or frees j 0)) later) (lt-ltb j (length frees) d) ∙ sym (starting j d)
        ∙ sym (start-bits m (length frees) width rows_are (wide_row matters width) y trace f small j d)
    | no d ↦
        let k = j - length frees in
        let w : 0 < width = wide f (omega arith) in
        let split = div-add-mod' k width in
        let i : k % width < width = mod-lt k w in
        let u : k / width < f = turn (k / width) f (omega arith) in
        let e : length frees + width * (k / width) + k % width ≡ j = omega arith in
        ap (λ (b : Bool). cond b (bits_of bits (get_or frees j 0)) later) (le-ltb j (length frees) (omega arith))
        ∙ sym (input-bit matters width (get_or trace (k / width) 0) (k % width) i)
        ∙ sym (row-bits m (length frees) width rows_are (wide_row matters width) y trace f small (k / width) (k % width) u i)
        ∙ ap (free_bit (length frees + width * f) (prefix_by m (wide_row matters width) y trace f)) e
  ]
    where
      later : Bool
      later = input_value (kept_below matters width) (get_or trace ((j - length frees) / width) 0) ((j - length frees) % width)

      small : (u : ℕ) → u < f → wide_row matters width (get_or trace u 0) < 2 ^ width
      small u h = wide_below matters width (get_or trace u 0)

      wide : (g : ℕ) → 0 < width * g → 0 < width
      wide g h = elim (dec_lt 0 width) [ yes d ↦ d | no d ↦ absurd (let z : width ≡ 0 = omega arith in omega (arith, ap (λ (n : ℕ). n * g) z)) ]

      turn : (u g : ℕ) → width * u < width * g → u < g
      turn u g h = elim (dec_lt u g) [ yes d ↦ d | no d ↦ let b : g ≤ u = omega arith in absurd (omega (arith, mul-le-mul_left width b)) ]
