-- Laws of the search for the first gate that waits for nothing, in one block and block after block. Assumes nothing.
use mathlib.Core.Path.{◌≡◌, refl, sym, ap, ◌∙◌, subst}
use mathlib.Core.List.{List}
use mathlib.Core.Logic.{◌⊎◌, ⊎_elim}
use Prim.Native.Nat.{ℕ, ◌+◌, ◌-◌, ◌*◌, ◌/◌, ◌≤◌, ◌<◌}
use native.Mathlib.Nat.{eq-or-lt_of_le}
use native.Mathlib.Decide.{dec_lt}
use native.Mathlib.Omega.{arith}
use lib.ListN.{length, get_or, set, length-set}
use Rattle.meaning.proofs.Lists.{get_d_set}
use Rattle.gate_order.specs.Waiting.{Marked, FirstIn, BlockSeen, FoundReady}

-- ---- one block

pub record Looking (waiting : List ℕ) (from to i : ℕ) : Type 0 where
  pub low : from ≤ i
  pub high : i ≤ to
  pub none_before : (j : ℕ) → from ≤ j → j < i → 0 < get_or waiting j 0

pub look : (waiting : List ℕ) (from to : ℕ) → from ≤ to → Looking waiting from to from
look waiting from to h = record { low = omega arith; high = h; none_before = λ j a b. absurd (omega arith) }

module _ {waiting : List ℕ} {from to i : ℕ} (g : Looking waiting from to i) where
  pub look-on : i < to → (get_or waiting i 0 ≡ 0 → ⊥) → Looking waiting from to (i + 1)
  look-on h n =
      let here : 0 < get_or waiting i 0 = omega arith in
      record {
        low = omega (arith, g.low);
        high = omega arith;
        none_before = λ j a b. ⊎_elim {C = 0 < get_or waiting j 0} (λ e. subst (λ (k : ℕ). 0 < get_or waiting k 0) (sym e) here) (λ k. g.none_before j a k) (cases j b);
      }
    where
      cases : (j : ℕ) → j < i + 1 → (j ≡ i) ⊎ (j < i)
      cases j b = eq-or-lt_of_le (omega arith)

  pub look-found : i < to → get_or waiting i 0 ≡ 0 → FirstIn waiting from to i
  look-found h e = record { low = g.low; high = g.high; none_before = g.none_before; here = λ _. e }

  pub look-end : to ≤ i → FirstIn waiting from to to
  look-end h =
      record {
        low = omega (arith, g.low, g.high);
        high = omega arith;
        none_before = λ j a b. g.none_before j a (omega arith);
        here = λ b. absurd (omega arith);
      }

-- ---- a block with its mark

-- the end of a block that begins among the places is not before its beginning
pub end-past : (b n to : ℕ) → 64 * b < n → (64 * b + 64 ≤ n → to ≡ 64 * b + 64) → (n ≤ 64 * b + 64 → to ≡ n) → 64 * b ≤ to
end-past b n to h whole part = elim (dec_lt n (64 * b + 64)) [
  | yes m ↦ (let e = part (omega arith) in omega arith)
  | no m ↦ (let e = whole (omega arith) in omega arith)
]

module _ (waiting marks : List ℕ) (b : ℕ) (marked : Marked waiting marks) where
  -- a block that is not marked has no such gate
  pub block-clear : get_or marks b 0 ≡ 0 → BlockSeen waiting marks b (length waiting) marks
  block-clear e =
      record {
        long = refl;
        marked = marked;
        inside = omega arith;
        found = λ h. absurd (omega arith);
        none_here = λ h i a l k. positive i (block i a l k);
      }
    where
      positive : (i : ℕ) → (get_or waiting i 0 ≡ 0 → ⊥) → 0 < get_or waiting i 0
      positive i n = omega arith

      block : (i : ℕ) → 64 * b ≤ i → i < 64 * (b + 1) → i < length waiting → get_or waiting i 0 ≡ 0 → ⊥
      block i a l k z =
          let q : i / 64 ≡ b = omega arith in
          omega (arith, subst (λ (x : ℕ). 0 < get_or marks x 0) q (marked i k z))

  module _ (to : ℕ) (few : (to ≤ 64 * b + 64) × (to ≤ length waiting)) (least : (64 * b + 64 ≤ length waiting → to ≡ 64 * b + 64) × (length waiting ≤ 64 * b + 64 → to ≡ length waiting)) where
    pub block-found : (r : ℕ) → r < to → FirstIn waiting (64 * b) to r → BlockSeen waiting marks b r marks
    block-found r h f =
        record {
          long = refl;
          marked = marked;
          inside = omega (arith, few.1);
          found = λ _. (f.low, f.here h, f.none_before);
          none_here = λ k. absurd (omega (arith, few.1));
        }

    pub block-through : (r : ℕ) → to ≤ r → b < length marks → FirstIn waiting (64 * b) to r → BlockSeen waiting marks b (length waiting) (set marks b 0)
    block-through r h l f =
        record {
          long = length-set marks b 0;
          marked = λ i k z.
              ⊎_elim {C = 0 < get_or (set marks b 0) (i / 64) 0} (λ p. absurd (omega (arith, none i (low i p.0) (high i p.0) k)))
              (λ p. subst (λ (x : ℕ). 0 < x) (sym p.1) (marked i k z)) (get_d_set marks b 0 (i / 64) l);
          inside = omega arith;
          found = λ k. absurd (omega arith);
          none_here = λ _. none;
        }
      where
        low : (i : ℕ) → i / 64 ≡ b → 64 * b ≤ i
        low i e = omega arith

        high : (i : ℕ) → i / 64 ≡ b → i < 64 * (b + 1)
        high i e = omega arith

        reach : (i : ℕ) → i < 64 * (b + 1) → i < length waiting → i < to
        reach i a k = elim (dec_lt (length waiting) (64 * b + 64)) [
          | yes m ↦ (let e = least.1 (omega arith) in omega arith)
          | no m ↦ (let e = least.0 (omega arith) in omega arith)
        ]

        none : (i : ℕ) → 64 * b ≤ i → i < 64 * (b + 1) → i < length waiting → 0 < get_or waiting i 0
        none i a c k = f.none_before i a (omega (arith, reach i c k))

-- ---- block after block

pub record Scanning (waiting marks₀ marks : List ℕ) (b : ℕ) : Type 0 where
  pub long : length marks ≡ length marks₀
  pub few : 64 * b ≤ length waiting + 64
  pub none_below : (i : ℕ) → i < 64 * b → i < length waiting → 0 < get_or waiting i 0
  pub marked : Marked waiting marks

pub scan : (waiting marks : List ℕ) → Marked waiting marks → Scanning waiting marks marks 0
scan waiting marks m = record { long = refl; few = omega arith; none_below = λ i a b. absurd (omega arith); marked = m }

module _ {waiting marks₀ marks : List ℕ} {b : ℕ} (g : Scanning waiting marks₀ marks b) where
  pub scan-on : 64 * b < length waiting → {marks' : List ℕ} (r : ℕ) → length waiting ≤ r → BlockSeen waiting marks b r marks'
      → Scanning waiting marks₀ marks' (b + 1)
  scan-on h {marks'} r l s =
      record {
        long = s.long ∙ g.long;
        few = omega arith;
        none_below = below;
        marked = s.marked;
      }
    where
      below : (i : ℕ) → i < 64 * (b + 1) → i < length waiting → 0 < get_or waiting i 0
      below i a k = elim (dec_lt i (64 * b)) [
        | yes m ↦ g.none_below i m k
        | no m ↦ s.none_here l i (omega arith) a k
      ]

  pub scan-found : {marks' : List ℕ} (r : ℕ) → r < length waiting → BlockSeen waiting marks b r marks' → FoundReady waiting r
  scan-found r l s =
      let f = s.found l in
      record {
        low = omega arith;
        high = omega arith;
        none_before = λ j a k. before j k;
        here = λ _. f.1;
      }
    where
      before : (j : ℕ) → j < r → 0 < get_or waiting j 0
      before j k = elim (dec_lt j (64 * b)) [
        | yes m ↦ g.none_below j m (omega arith)
        | no m ↦ (s.found l).2 j (omega arith) k
      ]

  pub scan-end : length waiting ≤ 64 * b → FoundReady waiting (length waiting)
  scan-end h =
      record {
        low = omega arith;
        high = omega arith;
        none_before = λ j a k. g.none_below j (omega arith) k;
        here = λ k. absurd (omega arith);
      }
