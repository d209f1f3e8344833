-- Numbers made bit after bit, from the last latch down. Assumes nothing.
use mathlib.Core.Path.{◌≡◌, refl, sym, ap, ap₂, ◌∙◌, subst}
use mathlib.Core.Bool.{Bool, true, false, cond}
use mathlib.Core.List.{List, [], ◌∷◌, map}
use Prim.Native.Nat.{ℕ, zero, suc, ◌+◌, ◌-◌, ◌*◌, ◌/◌, ◌%◌, ◌^◌, ◌≤◌, ◌<◌}
use native.Mathlib.Omega.{arith}
use lib.Dec.{T, eqb}
use lib.ListN.{length, get_or, length-map}
use lib.Pow.{pow_mono, shl-shr}
use lib.Seq.{ext_get_or}
use Rattle.aiger.specs.Lists.{upto, from}
use Rattle.aiger.specs.Bits.{nonzero, bit}
use Rattle.aiger.specs.Circuit.{Circuit, Latch}
use Rattle.aiger.specs.Frames.{is_free, free_starts, free_bits, free_bit, run, space}
use Rattle.aiger.proofs.Tests.{T_true}
use Rattle.meaning.proofs.Lists.{length_from}
use Rattle.meaning.proofs.Defined.{latch_at}
use Rattle.meaning.proofs.Sequences.{run-reset, run-free}
use Rattle.frames.specs.Starts.{free_before, start_bit}
use Rattle.frames.proofs.Starts.{free_more, free_part}
use Rattle.transitions.specs.Transitions.{number_of, start_number}
use Rattle.transitions.proofs.Numbers.{bit-over, number_small, map_at}
use Rattle.transitions.proofs.Prefixes.{first-start}
pub use Rattle.aiger.proofs.Tests.{bit-most as bit-few}

-- a bit as a number
pub bit-value : (x p : ℕ) → x / 2 ^ p % 2 ≡ cond (bit x p) 1 0
unfolding bit
bit-value x p = go (x / 2 ^ p % 2) (omega arith)
  where
    go : (r : ℕ) → r < 2 → r ≡ cond (nonzero r) 1 0
    go zero l = refl
    go (suc zero) l = refl
    go (suc (suc r)) l = absurd (omega arith)

module _ (f : ℕ → Bool) (count : ℕ) where
  -- the number of the latches from j on
  abbrev pub above : ℕ → ℕ
  above j = number_of (map f (from j (count - j)))

  pub above-end : 0 ≡ above count
  unfolding number_of
  above-end = ap (λ (k : ℕ). number_of (map f (from count k))) {x = 0} {y = count - count} (omega arith)

  pub above-start : above 0 ≡ number_of (map f (upto count))
  above-start = ap (λ (k : ℕ). number_of (map f (from 0 k))) {x = count - 0} {y = count} (omega arith)

  pub above_more : (j n v : ℕ) → 0 < j → j ≤ count → n ≡ above j → v ≡ cond (f (j - 1)) 1 0 → 2 * n + v ≡ above (j - 1)
  unfolding number_of
  above_more zero n v l h e q = absurd (omega arith)
  above_more (suc j) n v l h e q =
      let d : suc j - 1 ≡ j = omega arith in
      let k : count - j ≡ suc (count - suc j) = omega arith in
      let a : above j ≡ cond (f j) 1 0 + 2 * number_of (map f (from (suc j) (count - suc j))) = ap (λ (m : ℕ). number_of (map f (from j m))) k in
      let w : v ≡ cond (f j) 1 0 = q ∙ ap (λ (i : ℕ). cond (f i) 1 0) d in
      omega arith ∙ sym a ∙ ap above (sym d)

  pub above-small : (j : ℕ) → count ≤ 32 → above j < 4294967296
  above-small j l =
      let s = map f (from j (count - j)) in
      let a = number_small s in
      let b : length s ≡ count - j = length-map (from j (count - j)) f ∙ length_from j (count - j) in
      let m : 2 ^ length s ≤ 2 ^ 32 = pow_mono {i = length s} {j = 32} (omega arith) in
      omega arith

-- the start values of start place y
module _ (c : Circuit) (y : ℕ) where
  abbrev U : ℕ
  U = free_starts c

  abbrev W : ℕ
  W = length c.inputs

  abbrev x : ℕ
  x = y * 2 ^ W

  start-run : (run c 0 x).start ≡ (space c).start_of (free_bit U y)
  start-run = sym (first-start c x) ∙ ap (λ (z : ℕ). (space c).start_of (free_bit U z)) (shl-shr y W)

  free-bit : (q : ℕ) → q < U → free_bit U y q ≡ free_bit (free_bits c 0) x q
  unfolding free_bits
  free-bit q l =
      let e : W + (U - (q + 1)) ≡ U + W * (0 + 1) - (q + 1) = omega arith in
      ap (λ (z : ℕ). bit z (U - (q + 1))) (sym (shl-shr y W)) ∙ bit-over x W (U - (q + 1)) ∙ ap (bit x) e

  start-at : (j : ℕ) → j < length c.latches → start_bit c U y j ≡ get_or (run c 0 x).start j false
  unfolding start_bit free_before
  start-at j l = go (is_free (latch_at c j)) refl (free_more c j l)
    where
      go : (f : Bool) → is_free (latch_at c j) ≡ f → free_before c (j + 1) ≡ free_before c j + cond f 1 0
          → cond f (free_bit U y (free_before c j)) (eqb (latch_at c j).reset 1) ≡ get_or (run c 0 x).start j false
      go true e k = free-bit (free_before c j) (omega (arith, free_part c (j + 1))) ∙ sym (run-free c 0 x j l (T_true e))
      go false e k = sym (run-reset c 0 x j l (λ h. subst T e h))

  pub start-list : (ks : List ℕ) → ((i : ℕ) → i < length ks → get_or ks i 0 < length c.latches)
      → number_of (map (start_bit c (free_starts c) y) ks) ≡ start_number (record { circuit = c; kept = ks }) y
  unfolding start_number
  start-list ks h =
      let st = (space c).start_of (free_bit U y) in
      ap number_of
      (ext_get_or false (map (start_bit c U y) ks) (map (λ j. get_or st j false) ks) (length-map ks (start_bit c U y) ∙ sym (length-map ks (λ j. get_or st j false)))
      (λ i l.
      let k : i < length ks = omega (arith, length-map ks (start_bit c U y)) in
      map_at (start_bit c U y) ks i k ∙ start-at (get_or ks i 0) (h i k) ∙ ap (λ (r : List Bool). get_or r (get_or ks i 0) false) start-run
      ∙ sym (map_at (λ j. get_or st j false) ks i k)))
