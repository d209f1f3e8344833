-- Words that are stored one after the other: the free inputs, and the words of which each is what its literal is. Assumes nothing.
use mathlib.Core.Path.{◌≡◌, refl, sym, ap, ap₂, ◌∙◌}
use mathlib.Core.Bool.{Bool, true, false, cond}
use mathlib.Core.List.{List, [], ◌∷◌, map}
use Prim.Native.Nat.{ℕ, zero, suc, ◌+◌, ◌-◌, ◌≤◌, ◌<◌}
use native.Mathlib.Nat.{add-zero}
use native.Mathlib.Numerals.{add-one}
use native.Mathlib.Omega.{arith}
use lib.ListN.{length, set, length-set}
use Rattle.layout.specs.Words.{word, column}
use Rattle.roundtrip.proofs.Content.{words_at, words-length, column-words}
use Rattle.witness.proofs.Put.{put, put_is, put-none, put-cons}
use Rattle.pins.specs.Pins.{is_held, kept}
use Rattle.pins.proofs.Inputs.{kept-most}
use Rattle.pinning.specs.Steps.{stored}

-- ---- the free inputs

module _ (m : List ℕ) (q : ℕ → ℕ) (n : ℕ) where
  abbrev whole : List ℕ
  whole = kept q 0 (words_at m 7 n)

  -- those from the i-th on
  abbrev pub kept_rest : ℕ → List ℕ
  kept_rest i = kept q i (words_at m (7 + i) (n - i))

  -- storing the rest at `at` gives what is to be left
  pub record Keeping (before words : List ℕ) (at i : ℕ) : Type 0 where
    pub within : i ≤ n
    pub place : at ≤ 7 + i
    pub size : length words ≡ length before
    pub ends : at + length (kept_rest i) ≡ 7 + length (kept q 0 (words_at m 7 n))
    pub contents : put words at (kept_rest i) ≡ put before 7 (kept q 0 (words_at m 7 n))

  rest-start : kept_rest 0 ≡ whole
  rest-start =
      let a : 7 + 0 ≡ 7 = omega arith in
      let b : n - 0 ≡ n = omega arith in
      rw (a, b)

  pub keep-start : (before : List ℕ) → Keeping before before 7 0
  keep-start before =
      record {
        within = omega arith;
        place = omega arith;
        size = refl;
        ends = ap (λ (z : List ℕ). 7 + length z) rest-start;
        contents = ap (put before 7) rest-start;
      }

  rest_more : (i : ℕ) → i < n → kept_rest i ≡ cond (is_held (q i)) (kept_rest (i + 1)) (word m (7 + i) ∷ kept_rest (i + 1))
  unfolding kept
  rest_more i h =
      let one : n - i ≡ suc (n - (i + 1)) = omega arith in
      let next : 7 + (i + 1) ≡ suc (7 + i) = omega arith in
      let same : kept_rest (i + 1) ≡ kept q (suc i) (words_at m (suc (7 + i)) (n - (i + 1))) =
      ap₂ (λ (a b : ℕ). kept q a (words_at m b (n - (i + 1)))) (add-one i) next in
      rw (one, same)

  pub keep-more : {before words : List ℕ} {at i : ℕ} → Keeping before words at i → i < n → at < length words
      → Keeping before (cond (is_held (q i)) words (set words at (word m (7 + i)))) (cond (is_held (q i)) at (at + 1)) (i + 1)
  keep-more {before} {words} {at} {i} k h l = go (is_held (q i)) (rest_more i h)
    where
      go : (b : Bool) → kept_rest i ≡ cond b (kept_rest (i + 1)) (word m (7 + i) ∷ kept_rest (i + 1))
          → Keeping before (cond b words (set words at (word m (7 + i)))) (cond b at (at + 1)) (i + 1)
      go true e =
          record {
            within = omega arith;
            place = omega (arith, k.place);
            size = k.size;
            ends = ap (λ (z : List ℕ). at + length z) (sym e) ∙ k.ends;
            contents = ap (put words at) (sym e) ∙ k.contents;
          }
      go false e =
          record {
            within = omega arith;
            place = omega (arith, k.place);
            size = length-set words at (word m (7 + i)) ∙ k.size;
            ends = omega (arith, ap length e, k.ends);
            contents = sym (ap (put words at) e ∙ put-cons words at (word m (7 + i)) (kept_rest (i + 1)) l) ∙ k.contents;
          }

  rest_end : (i : ℕ) → n ≤ i → kept_rest i ≡ []
  unfolding kept
  rest_end i h = let e : n - i ≡ 0 = omega arith in rw e

  pub keep-end : {before words : List ℕ} {at i : ℕ} → Keeping before words at i → n ≤ i
      → (words ≡ stored before 7 (kept q 0 (column m 7 1 n))) × (at ≡ 7 + length (kept q 0 (column m 7 1 n)))
  keep-end {before} {words} {at} {i} k h =
      let e = rest_end i h in
      rw (column-words m 7 n) (
        sym (ap (put words at) e ∙ put-none words at) ∙ k.contents ∙ sym (put_is before 7 (kept q 0 (words_at m 7 n))),
        omega (arith, ap length e, k.ends),
      )

-- ---- words under a function

module _ (f : ℕ → ℕ) (m : List ℕ) (from n at : ℕ) where
  abbrev pub copy_rest : ℕ → List ℕ
  copy_rest j = map f (words_at m (from + j) (n - j))

  pub record Copying (before words : List ℕ) (j : ℕ) : Type 0 where
    pub within : j ≤ n
    pub size : length words ≡ length before
    pub contents : put words (at + j) (copy_rest j) ≡ put before at (map f (words_at m from n))

  pub copy_start : (before : List ℕ) → Copying before before 0
  copy_start before =
      let a : at + 0 ≡ at = omega arith in
      let b : from + 0 ≡ from = omega arith in
      let d : n - 0 ≡ n = omega arith in
      record { within = omega arith; size = refl; contents = rw (a, b, d) }

  pub copy_more : {before words : List ℕ} {j : ℕ} → Copying before words j → j < n → at + j < length words
      → Copying before (set words (at + j) (f (word m (from + j)))) (j + 1)
  copy_more {before} {words} {j} k h l =
      let one : n - j ≡ suc (n - (j + 1)) = omega arith in
      let next : from + (j + 1) ≡ suc (from + j) = omega arith in
      let there : at + (j + 1) ≡ at + j + 1 = omega arith in
      let e : copy_rest j ≡ f (word m (from + j)) ∷ copy_rest (j + 1) = rw (one, next) in
      record {
        within = omega arith;
        size = length-set words (at + j) (f (word m (from + j))) ∙ k.size;
        contents =
            ap (λ (p : ℕ). put (set words (at + j) (f (word m (from + j)))) p (copy_rest (j + 1))) there
            ∙ sym (ap (put words (at + j)) e ∙ put-cons words (at + j) (f (word m (from + j))) (copy_rest (j + 1)) l) ∙ k.contents;
      }

  pub copy-end : {before words : List ℕ} {j : ℕ} → Copying before words j → n ≤ j → words ≡ stored before at (map f (column m from 1 n))
  copy-end {before} {words} {j} k h =
      let z : n - j ≡ 0 = omega arith in
      let e : copy_rest j ≡ [] = rw z in
      rw (column-words m from n)
      (sym (ap (put words (at + j)) e ∙ put-none words (at + j)) ∙ k.contents ∙ sym (put_is before at (map f (words_at m from n))))
