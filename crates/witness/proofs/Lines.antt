-- Reading a line of bits, and the line that ends a witness, by position. Assumes nothing.
use mathlib.Core.Path.{◌≡◌, refl, sym, ap, ◌∙◌, subst}
use mathlib.Core.Bool.{Bool, true, false, ◌&&◌, ◌||◌}
use mathlib.Core.List.{List, [], ◌∷◌}
use mathlib.Core.Logic.{◌⊎◌, inl, inr}
use mathlib.Core.Option.{none, some}
use Prim.Native.Nat.{ℕ, zero, suc, ◌+◌, ◌-◌, ◌≤◌, ◌<◌}
use native.Mathlib.Nat.{add-zero}
use native.Mathlib.Numerals.{add-one}
use native.Mathlib.Decide.{ℕ_discrete}
use native.Mathlib.Omega.{arith}
use borrow.Author.Tests.{eq-eqb, ne_eqb}
use lib.Dec.{eqb}
use lib.ListN.{length, drop, get_or, length-map, length-drop, drop_of_length-le}
use lib.Seq.{drop-cons}
use Rattle.aiger.specs.Lists.{same, from}
use Rattle.aiger.specs.Text.{bytes, when, ◌>>◌}
use Rattle.aiger.specs.Witness.{bits}
use Rattle.roundtrip.proofs.Lists.{from-length}
use Rattle.witness.specs.Line.{values, meant, Within, Placed, LineAt}
use Rattle.witness.specs.declared.Bits.{Bits}
use Rattle.witness.specs.declared.Bits.TheVariants.{Read, Malformed}

pub values_length : (text : List ℕ) (at count : ℕ) → length (values text at count) ≡ count
values_length text at count = length-map (from at count) (λ p. eqb (get_or text p 0) 49) ∙ from-length at count

-- bit i of a line that was read
pub value-at : (text : List ℕ) (at count i : ℕ) → i < count → get_or (values text at count) i false ≡ eqb (get_or text (at + i) 0) 49
value-at text at zero i h = absurd (omega arith)
value-at text at (suc n) zero h = ap (λ (p : ℕ). eqb (get_or text p 0) 49) (sym (add-zero at))
value-at text at (suc n) (suc i) h = value-at text (suc at) n i (omega arith) ∙ ap (λ (p : ℕ). eqb (get_or text p 0) 49) (omega arith)

skip : {A : Type 0} (b : Bool) → ◌>>◌ {B = A} (when b) none ≡ none
skip true = refl
skip false = refl

-- a text that ends before the line feed
bits-short : (n : ℕ) (w : List ℕ) → length w ≤ n → bits n w ≡ none
unfolding bits
bits-short n [] h = refl
bits-short zero (c ∷ w) h = absurd (omega arith)
bits-short (suc n) (c ∷ w) h = rw (bits-short n w (omega arith)) (skip (eqb c 48 || eqb c 49))

pub too_short : (text : List ℕ) (at count : ℕ) → length text ≤ at + count → bits count (drop at text) ≡ none
too_short text at count h = bits-short count (drop at text) (omega (arith, length-drop at text))

-- a byte that is no bit
pub no-bit : (text : List ℕ) (at count i : ℕ) → i < count → at + i < length text → (get_or text (at + i) 0 ≡ 48 → ⊥) → (get_or text (at + i) 0 ≡ 49 → ⊥)
    → bits count (drop at text) ≡ none
unfolding bits
no-bit text at zero i h l a b = absurd (omega arith)
no-bit text at (suc n) zero h l a b =
    let e : at + 0 ≡ at = add-zero at in
    rw (drop-cons text at 0 (omega arith), ne_eqb (get_or text at 0) 48 (rw e at a), ne_eqb (get_or text at 0) 49 (rw e at b))
no-bit text at (suc n) (suc i) h l a b =
    let e : at + suc i ≡ suc at + i = omega arith in
    rw (drop-cons text at 0 (omega arith), no-bit text (suc at) n i (omega arith) (omega arith) (rw e at a) (rw e at b))
    (skip (eqb (get_or text at 0) 48 || eqb (get_or text at 0) 49))

-- a byte that is a bit
abbrev pub IsBit : ℕ → Type 0
IsBit x = (x ≡ 48) ⊎ (x ≡ 49)

bit_test : (x : ℕ) → IsBit x → eqb x 48 || eqb x 49 ≡ true
bit_test x (inl e) = rw e
bit_test x (inr e) = rw e

-- bits that no line feed ends
pub no_line : (text : List ℕ) (at count : ℕ) → at + count < length text → (get_or text (at + count) 0 ≡ 10 → ⊥) → bits count (drop at text) ≡ none
unfolding bits
no_line text at zero l a =
    let e : at + 0 ≡ at = add-zero at in
    rw (drop-cons text at 0 (omega arith), ne_eqb (get_or text at 0) 10 (rw e at a))
no_line text at (suc n) l a =
    let e : at + suc n ≡ suc at + n = omega arith in
    rw (drop-cons text at 0 (omega arith), no_line text (suc at) n (omega arith) (rw e at a)) (skip (eqb (get_or text at 0) 48 || eqb (get_or text at 0) 49))

-- bits, and a line feed
line : (text : List ℕ) (at count : ℕ) → at + count < length text → ((i : ℕ) → i < count → IsBit (get_or text (at + i) 0)) → get_or text (at + count) 0 ≡ 10
    → some (values text at count, drop (at + count + 1) text) ≡ bits count (drop at text)
unfolding bits
line text at zero l h e =
    let z : at + 0 ≡ at = add-zero at in
    rw (drop-cons text at 0 (omega arith), eq-eqb (get_or text at 0) 10 (rw z at e), z, add-one at)
line text at (suc n) l h e =
    let z : at + suc n ≡ suc at + n = omega arith in
    let first : IsBit (get_or text at 0) = rw (add-zero at) at (h 0 (omega arith)) in
    let more = line text (suc at) n (omega arith) (λ i k. let y : suc at + i ≡ at + suc i = omega arith in rw y (h (suc i) (omega arith))) (rw z at e) in
    rw (drop-cons text at 0 (omega arith), bit_test (get_or text at 0) first, z, ← more)

pub bit-range : (x : ℕ) → 48 ≤ x → x ≤ 49 → IsBit x
bit-range x h l = elim (ℕ_discrete x 48) [ yes e ↦ inl e | no n ↦ inr (omega arith) ]

-- the answers
pub no_answer : {text : List ℕ} {at count : ℕ} → bits count (drop at text) ≡ none → LineAt text at count Malformed
no_answer e = record { meaning = sym e; place = tt }

pub answer : (text : List ℕ) (at count : ℕ) → at + count < length text → ((i : ℕ) → i < count → IsBit (get_or text (at + i) 0)) → get_or text (at + count) 0 ≡ 10
    → LineAt text at count (Read (at + count + 1))
answer text at count l h e = record { meaning = line text at count l h e; place = record { past = refl; inside = omega arith } }

-- what a caller learns from an answer
module _ {text : List ℕ} {at count : ℕ} {r : Bits} (h : LineAt text at count r) where
  pub on_read : {next : ℕ} → r ≡ Read next → (bits count (drop at text) ≡ some (values text at count, drop next text)) × Within text at count next
  on_read e = (sym h.meaning ∙ ap (meant text at count) e, subst (Placed text at count) e h.place)

  pub on-malformed : r ≡ Malformed → bits count (drop at text) ≡ none
  on-malformed e = sym h.meaning ∙ ap (meant text at count) e

-- ---- the line that ends a witness

same-short : (w : List ℕ) → (length w ≡ 2 → ⊥) → same w (bytes ".\n") ≡ false
same-short [] h = refl
same-short (a ∷ []) h = go (eqb a 46)
  where
    go : (b : Bool) → b && false ≡ false
    go true = refl
    go false = refl
same-short (a ∷ b ∷ []) h = absurd (h refl)
same-short (a ∷ b ∷ c ∷ w) h = go (eqb a 46) (eqb b 10)
  where
    go : (x y : Bool) → x && (y && false) ≡ false
    go true true = refl
    go true false = refl
    go false y = refl

pub not_end : (text : List ℕ) (at : ℕ) → (length text - at ≡ 2 → ⊥) → same (drop at text) (bytes ".\n") ≡ false
not_end text at h = same-short (drop at text) (λ e. h (sym (length-drop at text) ∙ e))

and-true : (b : Bool) → b && true ≡ b
and-true true = refl
and-true false = refl

-- two bytes that are left
two-left : (text : List ℕ) (at : ℕ) → length text - at ≡ 2 → same (drop at text) (bytes ".\n") ≡ eqb (get_or text at 0) 46 && eqb (get_or text (at + 1) 0) 10
two-left text at h =
    let e : suc at ≡ at + 1 = sym (add-one at) in
    let z : drop (suc (suc at)) text ≡ [] = drop_of_length-le text {i = suc (suc at)} (omega arith) in
    rw (drop-cons text at 0 (omega arith), drop-cons text (suc at) 0 (omega arith), z, and-true (eqb (get_or text (suc at) 0) 10), e)

pub not-dot : (text : List ℕ) (at : ℕ) → length text - at ≡ 2 → (get_or text at 0 ≡ 46 → ⊥) → same (drop at text) (bytes ".\n") ≡ false
not-dot text at h n = two-left text at h ∙ rw (ne_eqb (get_or text at 0) 46 n)

pub dot : (text : List ℕ) (at : ℕ) → length text - at ≡ 2 → get_or text at 0 ≡ 46 → same (drop at text) (bytes ".\n") ≡ eqb (get_or text (at + 1) 0) 10
dot text at h e = two-left text at h ∙ rw (eq-eqb (get_or text at 0) 46 e)
