-- Latches as a number, and bits of quotients. Assumes nothing.
use mathlib.Core.Path.{◌≡◌, refl, sym, ap, ap₂, ◌∙◌, subst}
use mathlib.Core.Bool.{Bool, true, false, cond}
use mathlib.Core.List.{List, [], ◌∷◌, map}
use Prim.Native.Nat.{ℕ, zero, suc, ◌+◌, ◌-◌, ◌*◌, ◌/◌, ◌%◌, ◌^◌, ◌≤◌, ◌<◌}
use native.Mathlib.Nat.{mod-lt}
use native.Mathlib.Omega.{arith}
use borrow.Author.Tests.{eq-eqb, ne_eqb}
use lib.ListN.{length, get_or, length-map}
use lib.Pow.{split, pow_pos}
use lib.Seq.{ext_get_or}
use Rattle.aiger.specs.Lists.{upto, from}
use Rattle.aiger.specs.Bits.{nonzero, odd, bit}
use Rattle.words.proofs.Bits.{bit-zero, bit-suc, bit-none, join-low, join-high}
use Rattle.meaning.proofs.Lists.{length-map-upto, get_d-map-upto, get_or-map}
use Rattle.influence.specs.Part.{Part, kept_at, Agree, Listed}
use Rattle.transitions.specs.Transitions.{number_of, rank_in, latches_of, packed}
use Rattle.aiger.proofs.Tests.{nonzero-bit}

-- ---- bits of quotients and rests
pub bit-over : (x w j : ℕ) → bit (x / 2 ^ w) j ≡ bit x (w + j)
bit-over x w j =
    let e : w + j - w ≡ j = omega arith in
    sym (ap (λ (y : ℕ). bit y (w + j)) (sym (split x w)) ∙ join-high w (x / 2 ^ w) (x % 2 ^ w) (w + j) (mod-lt x (pow_pos w)) (omega arith) ∙ ap (bit (x / 2 ^ w)) e)

pub bit-rest : (x w j : ℕ) → j < w → bit (x % 2 ^ w) j ≡ bit x j
bit-rest x w j l = sym (ap (λ (y : ℕ). bit y j) (sym (split x w)) ∙ join-low w (x / 2 ^ w) (x % 2 ^ w) j l)

-- ---- numbers of latches
unit : (b : Bool) (n : ℕ) → ((cond b 1 0 + 2 * n) / 2 ≡ n) × ((cond b 1 0 + 2 * n) % 2 ≡ cond b 1 0)
unit true n = (omega arith, omega arith)
unit false n = (omega arith, omega arith)

-- bit j is latch j
pub bit-number : (bs : List Bool) (j : ℕ) → bit (number_of bs) j ≡ get_or bs j false
unfolding number_of
bit-number [] j = bit-none j
bit-number (b ∷ bs) zero = bit-zero (cond b 1 0 + 2 * number_of bs) ∙ ap nonzero (unit b (number_of bs)).1 ∙ nonzero-bit b
bit-number (b ∷ bs) (suc j) =
    bit-suc (cond b 1 0 + 2 * number_of bs) j ∙ ap (λ (n : ℕ). bit n j) (unit b (number_of bs)).0 ∙ bit-number bs j

-- a latch that is kept stands where it is listed
pub rank-at : (ks : List ℕ) → ((i j : ℕ) → i < j → j < length ks → get_or ks i 0 < get_or ks j 0) → (i : ℕ) → i < length ks → rank_in ks (get_or ks i 0) ≡ i
unfolding rank_in
rank-at [] h i l = absurd (omega arith)
rank-at (k ∷ ks) h zero l = ap (λ (q : Bool). cond q 0 (suc (rank_in ks k))) (eq-eqb k k refl)
rank-at (k ∷ ks) h (suc i) l =
    let d : k < get_or ks i 0 = h 0 (suc i) (omega arith) l in
    ap (λ (q : Bool). cond q 0 (suc (rank_in ks (get_or ks i 0)))) (ne_eqb k (get_or ks i 0) (λ e. omega arith))
    ∙ ap suc (rank-at ks (λ x y a b. h (suc x) (suc y) (omega arith) (omega arith)) i (omega arith))

-- a list under a function, by position
pub map_at : (f : ℕ → Bool) (ks : List ℕ) (i : ℕ) → i < length ks → get_or (map f ks) i false ≡ f (get_or ks i 0)
map_at f ks i l = get_or-map f ks i 0 false l

pub map-through : (f : ℕ → Bool) (ks : List ℕ) → map (λ i. f (get_or ks i 0)) (upto (length ks)) ≡ map f ks
map-through f ks =
    ext_get_or false (map (λ i. f (get_or ks i 0)) (upto (length ks))) (map f ks)
    (length-map-upto (λ i. f (get_or ks i 0)) (length ks) ∙ sym (length-map ks f))
    (λ i l.
    let h : i < length ks = omega (arith, length-map-upto (λ i. f (get_or ks i 0)) (length ks)) in
    get_d-map-upto (λ i. f (get_or ks i 0)) (length ks) i false h ∙ sym (map_at f ks i h))

module _ (c : Part) (listed : Listed c) where
  -- bit i of a state is the i-th latch that is kept
  pub latch-of : (s i : ℕ) → i < length c.kept → get_or (latches_of c s) (kept_at c i) false ≡ bit s i
  latch-of s i l =
      get_d-map-upto (λ j. bit s (rank_in c.kept j)) (length c.circuit.latches) (kept_at c i) false (listed.inside i l)
      ∙ ap (bit s) (rank-at c.kept listed.rising i l)

  pub latches-length : (s : ℕ) → length (latches_of c s) ≡ length c.circuit.latches
  latches-length s = length-map-upto (λ j. bit s (rank_in c.kept j)) (length c.circuit.latches)

  -- the latches that are kept are read back
  pub latches-number : (bs : List Bool) → Agree c bs (latches_of c (packed c bs))
  latches-number bs i l =
      sym (latch-of (packed c bs) i l ∙ bit-number (map (λ j. get_or bs j false) c.kept) i ∙ map_at (λ j. get_or bs j false) c.kept i l)

-- a number of n latches is small
pub number_small : (bs : List Bool) → number_of bs < 2 ^ length bs
unfolding number_of
number_small [] = omega arith
number_small (b ∷ bs) = go b (number_small bs)
  where
    go : (b : Bool) → number_of bs < 2 ^ length bs → cond b 1 0 + 2 * number_of bs < 2 ^ suc (length bs)
    go true h = omega arith
    go false h = omega arith
