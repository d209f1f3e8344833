-- States as words of 32 latches. Assumes nothing.
use mathlib.Core.Path.{◌≡◌, refl, sym, ap, ap₂, ◌∙◌, subst}
use mathlib.Core.Bool.{Bool, true, false}
use mathlib.Core.List.{List, map}
use Prim.Native.Nat.{ℕ, zero, suc, ◌+◌, ◌-◌, ◌*◌, ◌/◌, ◌%◌, ◌^◌, ◌≤◌, ◌<◌, min}
use native.Mathlib.Decide.{dec_lt}
use native.Mathlib.Omega.{arith}
use lib.ListN.{length, get_or, take, drop, length-map, length-take, length-drop, get_or-eq_default}
use lib.Pow.{pow-add, pow_mono}
use lib.Seq.{get_or-take, get_or-drop, length-take-le}
use Rattle.aiger.specs.Bits.{bit}
use Rattle.words.proofs.Bits.{bits-equal, join-low, join-high}
use Rattle.states.specs.Number.{number_at}
use Rattle.states.proofs.Numbers.{Words}
use Rattle.transitions.specs.Transitions.{number_of}
use Rattle.transitions.proofs.Numbers.{bit-number, map_at, number_small}

-- ---- bits of a number in words
pub number_bound : (m : List ℕ) → Words m → (at n : ℕ) → number_at m at n < 2 ^ (32 * n)
unfolding number_at
number_bound m w at zero = omega arith
number_bound m w at (suc n) =
    let e : 32 * suc n ≡ 32 + 32 * n = omega arith in
    let q : 2 ^ (32 * suc n) ≡ 2 ^ 32 * 2 ^ (32 * n) = ap (λ (x : ℕ). 2 ^ x) e ∙ pow-add 2 32 (32 * n) in
    omega (arith, w at, number_bound m w (at + 1) n)

pub number_bit : (m : List ℕ) → Words m → (at n i : ℕ) → i < 32 * n → bit (number_at m at n) i ≡ bit (get_or m (at + i / 32) 0) (i % 32)
unfolding number_at
number_bit m w at zero i l = absurd (omega arith)
number_bit m w at (suc n) i l =
    let x = number_at m (at + 1) n in
    let a = get_or m at 0 in
    let s : a + 4294967296 * x ≡ x * 2 ^ 32 + a = omega arith in
    elim (dec_lt i 32) [
      | yes h ↦
          let d : at ≡ at + i / 32 = omega arith in
          let r : i ≡ i % 32 = omega arith in
          ap (λ (y : ℕ). bit y i) s ∙ join-low 32 x a i h ∙ ap₂ (λ (y : ℕ) (z : ℕ). bit (get_or m y 0) z) d r
      | no h ↦
          let d : at + 1 + (i - 32) / 32 ≡ at + i / 32 = omega arith in
          let r : (i - 32) % 32 ≡ i % 32 = omega arith in
          ap (λ (y : ℕ). bit y i) s ∙ join-high 32 x a i (w at) (omega arith) ∙ number_bit m w (at + 1) n (i - 32) (omega arith)
          ∙ ap₂ (λ (y : ℕ) (z : ℕ). bit (get_or m y 0) z) d r
    ]

-- words whose bits are those of a list are its number
pub words-number : (m : List ℕ) → Words m → (n : ℕ) (bs : List Bool) → length bs ≤ 32 * n
    → ((i : ℕ) → i < 32 * n → bit (get_or m (i / 32) 0) (i % 32) ≡ get_or bs i false) → number_at m 0 n ≡ number_of bs
words-number m w n bs l h =
    bits-equal (32 * n) (number_at m 0 n) (number_of bs) (number_bound m w 0 n)
    (let a = number_small bs in let b : 2 ^ length bs ≤ 2 ^ (32 * n) = pow_mono {i = length bs} {j = 32 * n} l in omega arith)
    (λ i k.
    let z : 0 + i / 32 ≡ i / 32 = omega arith in
    number_bit m w 0 n i k ∙ ap (λ (x : ℕ). bit (get_or m x 0) (i % 32)) z ∙ h i k ∙ sym (bit-number bs i))

-- ---- words that are packed one after the other
-- word j is the number of the latches from 32 j on, 32 at most
abbrev pub Packed : (ℕ → Bool) → List ℕ → ℕ → ℕ → Type 0
Packed f ks j v = v ≡ number_of (map f (take (min 32 (length ks - 32 * j)) (drop (32 * j) ks)))

packed-bit : (f : ℕ → Bool) (ks : List ℕ) (j v r : ℕ) → 32 * j ≤ length ks → Packed f ks j v → r < 32
    → bit v r ≡ get_or (map f ks) (32 * j + r) false
packed-bit f ks j v r l e h =
    let n = min 32 (length ks - 32 * j) in
    let part = take n (drop (32 * j) ks) in
    let long : length part ≡ n = length-take-le n (drop (32 * j) ks) (omega (arith, length-drop (32 * j) ks)) in
    ap (λ (x : ℕ). bit x r) e ∙ bit-number (map f part) r
    ∙ elim (dec_lt r n) [
      | yes d ↦
          map_at f part r (omega arith) ∙ ap f (get_or-take n (drop (32 * j) ks) r 0 d ∙ get_or-drop (32 * j) ks r 0)
          ∙ sym (map_at f ks (32 * j + r) (omega arith))
      | no d ↦
          get_or-eq_default (map f part) false {n = r} (omega (arith, length-map part f))
          ∙ sym (get_or-eq_default (map f ks) false {n = 32 * j + r} (omega (arith, length-map ks f)))
    ]

pub packed_all : (f : ℕ → Bool) (ks m : List ℕ) → Words m → (n : ℕ) → length ks ≤ 32 * n → 32 * n < length ks + 32
    → ((j : ℕ) → j < n → Packed f ks j (get_or m j 0)) → number_at m 0 n ≡ number_of (map f ks)
packed_all f ks m w n l k h =
    words-number m w n (map f ks) (omega (arith, length-map ks f))
    (λ i u.
    let j = i / 32 in
    let e : 32 * j + i % 32 ≡ i = omega arith in
    packed-bit f ks j (get_or m j 0) (i % 32) (omega arith) (h j (omega arith)) (omega arith) ∙ ap (λ (x : ℕ). get_or (map f ks) x false) e)

-- the words of a part of a list
pub packed-part : (f : ℕ → Bool) (ks : List ℕ) (j end v : ℕ) → end ≡ 32 * j + min 32 (length ks - 32 * j)
    → v ≡ number_of (map f (take (end - 32 * j) (drop (32 * j) ks))) → Packed f ks j v
packed-part f ks j end v e q =
    let z : end - 32 * j ≡ min 32 (length ks - 32 * j) = omega arith in
    q ∙ ap (λ (x : ℕ). number_of (map f (take x (drop (32 * j) ks)))) z

-- such words are words of 32 bits
pub packed-words : (f : ℕ → Bool) (ks m : List ℕ) (n : ℕ) → length m ≡ n → ((j : ℕ) → j < n → Packed f ks j (get_or m j 0)) → Words m
packed-words f ks m n e h j = elim (dec_lt j n) [
  | yes d ↦
      let part = take (min 32 (length ks - 32 * j)) (drop (32 * j) ks) in
      let l : length part ≤ 32 = length-few (min 32 (length ks - 32 * j)) (drop (32 * j) ks) (omega arith) in
      let a = number_small (map f part) in
      let b : 2 ^ length (map f part) ≤ 2 ^ 32 = pow_mono {i = length (map f part)} {j = 32} (omega (arith, length-map part f)) in
      omega (arith, h j d)
  | no d ↦ omega (arith, get_or-eq_default m 0 {n = j} (omega arith))
]
  where
    length-few : (k : ℕ) (l : List ℕ) → k ≤ 32 → length (take k l) ≤ 32
    length-few k l a = omega (arith, length-take k l)
