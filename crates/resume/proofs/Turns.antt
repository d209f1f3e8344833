-- One turn of each loop. Assumes nothing.
use mathlib.Core.Path.{◌≡◌, refl, sym, ap, ◌∙◌, subst}
use mathlib.Core.Bool.{Bool, true, false, cond, ◌&&◌}
use mathlib.Core.List.{List}
use Prim.Native.Nat.{ℕ, zero, suc, ◌+◌, ◌-◌, ◌*◌, ◌≤◌, ◌<◌, min}
use native.Mathlib.Decide.{ℕ_discrete}
use native.Mathlib.Omega.{arith}
use lib.ListN.{length, get_or, set}
use lib.Seq.{get_or-set_same, get_or-set_other}
use Rattle.aiger.specs.Bits.{nonzero, bit}
use Rattle.aiger.specs.Frames.{free_bit}
use Rattle.support.specs.Counting.{rank, spread}
use Rattle.support.proofs.Counting.{rank-zero, rank-more, spread-bit}
use Rattle.places.proofs.Digits.{digit-is}
use Rattle.resume.specs.Resume.{before, marked, place_of, Copied, Spread}
pub use Rattle.aiger.proofs.Tests.{nonzero-true as is_some, nonzero-false as is_none}

-- ---- copies

pub copied_none : (from to : List ℕ) → Copied from 0 to to
copied_none from to = record { new = λ j h. absurd (omega arith); others = λ j h. refl }

pub copied_more : (from to mid : List ℕ) (i : ℕ) → i < length mid → Copied from i to mid
    → Copied from (i + 1) to (set mid i (get_or from i 0))
copied_more from to mid i h c =
    record {
      new = λ j l.
          elim (ℕ_discrete j i) [
            | yes e ↦
                subst (λ (k : ℕ). get_or (set mid i (get_or from i 0)) k 0 ≡ get_or from k 0) (sym e)
                (get_or-set_same mid i (get_or from i 0) 0 h)
            | no e ↦ get_or-set_other mid i j (get_or from i 0) 0 e ∙ c.new j (omega arith)
          ];
      others = λ j l. get_or-set_other mid i j (get_or from i 0) 0 (λ e. omega arith) ∙ c.others j (omega arith);
    }

-- ---- the place of a sequence

pub before-none : (s f : ℕ → Bool) (v : ℕ) → v ≡ 0 → before s f v ≡ 0
unfolding before
before-none s f zero e = refl
before-none s f (suc v) e = absurd (omega arith)

pub before-next : (s f : ℕ → Bool) (v y z : ℕ) → y ≡ min 4294967296 (before s f v)
    → z ≡ cond (s (v + 1)) (min 4294967296 (2 * y + cond (f v) 1 0)) y → z ≡ min 4294967296 (before s f (v + 1))
unfolding before
before-next s f v y z e g = let k : v + 1 ≡ suc v = omega arith in subst (λ (m : ℕ). z ≡ min 4294967296 (before s f m)) (sym k) (go (s (suc v)) (g ∙ ap (λ (m : ℕ). cond (s m) (min 4294967296 (2 * y + cond (f v) 1 0)) y) k))
  where
    go : (b : Bool) → z ≡ cond b (min 4294967296 (2 * y + cond (f v) 1 0)) y
        → z ≡ min 4294967296 (cond b (2 * before s f v + cond (f v) 1 0) (before s f v))
    go true h = omega arith
    go false h = omega arith

-- ---- the sequence at a place

-- the words of nodes after `left` are the bits of place y, and r of these nodes count
pub record Spreading (work : List ℕ) (y n : ℕ) (bits₀ bits : List ℕ) (r left : ℕ) : Type 0 where
  pub within : left ≤ n
  pub few : r ≤ n - left
  pub count : r ≡ rank (λ i. marked work (n - i)) (n - left)
  pub done : (j : ℕ) → left ≤ j → j < n → get_or bits j 0 ≡ cond (free_bit n (spread (λ i. marked work (n - i)) n y) j) 1 0
  pub others : (j : ℕ) → n ≤ j → get_or bits j 0 ≡ get_or bits₀ j 0

pub spreading-start : (work : List ℕ) (y n : ℕ) (bits : List ℕ) → Spreading work y n bits bits 0 n
spreading-start work y n bits =
    let k : 0 ≡ n - n = omega arith in
    record {
      within = omega arith;
      few = omega arith;
      count = sym (rank-zero (λ i. marked work (n - i))) ∙ ap (rank (λ i. marked work (n - i))) k;
      done = λ j h l. absurd (omega arith);
      others = λ j h. refl;
    }

-- a bit as a word
abbrev digit : Bool → ℕ
digit b = cond b 1 0

pub spreading-more : (work : List ℕ) (y n : ℕ) (bits₀ bits : List ℕ) (r left word next : ℕ) → Spreading work y n bits₀ bits r left
    → 0 < left → n ≤ length bits → word ≡ digit (marked work left && bit y r) → next ≡ r + cond (marked work left) 1 0
    → Spreading work y n bits₀ (set bits (left - 1) word) next (left - 1)
spreading-more work y n bits₀ bits r left word next p some long w e =
    let s : ℕ → Bool = λ i. marked work (n - i) in
    let i = n - left in
    let at : n - i ≡ left = omega (arith, p.within) in
    let same : s i ≡ marked work left = ap (marked work) at in
    let k : i + 1 ≡ n - (left - 1) = omega (arith, p.within) in
    record {
      within = omega (arith, p.within);
      few = few (marked work left) e;
      count =
          e ∙ ap (λ (m : ℕ). m + cond (marked work left) 1 0) p.count ∙ ap (λ (b : Bool). rank s i + cond b 1 0) (sym same)
          ∙ sym (rank-more s i) ∙ ap (rank s) k;
      done = λ j h l.
          elim (ℕ_discrete j (left - 1)) [
            | yes f ↦
                (let z : n - (j + 1) ≡ i = omega arith in
                let bit_is : (marked work left && bit y r) ≡ free_bit n (spread s n y) j =
                ap (λ (b : Bool). b && bit y r) (sym same) ∙ ap (λ (m : ℕ). s i && bit y m) p.count
                ∙ sym (spread-bit s n y i (omega (arith, p.within))) ∙ ap (bit (spread s n y)) (sym z) in
                subst (λ (m : ℕ). get_or (set bits (left - 1) word) m 0 ≡ word) (sym f)
                (get_or-set_same bits (left - 1) word 0 (omega (arith, p.within)))
                ∙ w ∙ ap digit bit_is)
            | no f ↦ get_or-set_other bits (left - 1) j word 0 f ∙ p.done j (omega arith) l
          ];
      others = λ j h. get_or-set_other bits (left - 1) j word 0 (λ f. omega (arith, p.within)) ∙ p.others j h;
    }
  where
    few : (b : Bool) → next ≡ r + cond b 1 0 → next ≤ n - (left - 1)
    few true q = omega (arith, p.few, p.within)
    few false q = omega (arith, p.few, p.within)

-- the bits that the words stand for
pub spread-bits : {work : List ℕ} {y n : ℕ} {before after : List ℕ} → Spread work y n before after
    → (j : ℕ) → j < n → nonzero (get_or after j 0) ≡ free_bit n (spread (λ i. marked work (n - i)) n y) j
spread-bits {work} {y} {n} {before} {after} s j h =
    digit-is (get_or after j 0) (free_bit n (spread (λ i. marked work (n - i)) n y) j) (s.new j h)
