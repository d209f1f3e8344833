-- Widening one bit, and that the body keeps its form. Assumes nothing.
use mathlib.Core.Path.{◌≡◌, refl, sym, ap, ◌∙◌, subst}
use mathlib.Core.Bool.{Bool, true, false, cond, ◌&&◌}
use mathlib.Core.List.{List}
use mathlib.Core.Logic.{inl, inr}
use Prim.Native.Nat.{ℕ, suc, ◌+◌, ◌-◌, ◌*◌, ◌≤◌, ◌<◌}
use native.Mathlib.Omega.{arith}
use borrow.Author.Tests.{lt-ltb, le-ltb, ltb-true}
use lib.Dec.{T, ltb}
use lib.ListN.{length, get_or, set, length-set}
use lib.Seq.{set-get_or, set-set}
use Rattle.aiger.specs.Circuit.{Circuit}
use Rattle.completions.specs.Either.{eithers, is_bit, all_pass, widen_at, widen_below}
use Rattle.aiger.proofs.Tests.{and_left, and_right, true-T, T_true}
use Rattle.completions.specs.Forms.{Bit, Symbol, SameForm}
use Rattle.completions.proofs.Forms.{bit_test, test_bit, other-bit, bit-inside, form-set, eithers-set, eithers-bit}
use Rattle.completions.proofs.Widening.{either-half}
use Rattle.blocks.specs.Runs.{Fits}

-- ---- a body that fits still does with another byte

module _ {c : Circuit} {b frames count : ℕ} {body : List ℕ} (F : Fits c b frames count body) (i : ℕ) (s : Bit (get_or body i 0)) where
  pub fits-bit : (x : ℕ) → Bit x → Fits c b frames count (set body i x)
  fits-bit x y =
      record {
        form = λ u h. F.form u (form-set body i x (bit-inside body i s) (inl s) (inl y) h);
        some-frame = F.some-frame;
        inside = omega (arith, F.inside, length-set body i x);
        eithers-are = F.eithers-are ∙ sym (eithers-bit body i x s y);
        few = F.few;
      }

  pub fits-either : count < 16 → Fits c b frames (count + 1) (set body i 120)
  fits-either l =
      record {
        form = λ u h. F.form u (form-set body i 120 (bit-inside body i s) (inl s) (inr refl) h);
        some-frame = F.some-frame;
        inside = omega (arith, F.inside, length-set body i 120);
        eithers-are = ap (λ (n : ℕ). n + 1) F.eithers-are ∙ sym (eithers-set body i s);
        few = omega arith;
      }

-- ---- what widening does at position i

module _ (p : List ℕ → Bool) (w : List ℕ) (i : ℕ) where
  -- 16 x already
  pub at-full : 16 ≤ eithers w → w ≡ widen_at p w i
  unfolding widen_at
  at-full h = go (is_bit (get_or w i 0))
    where
      go : (a : Bool) → w ≡ cond (a && ltb (eithers w) 16 && all_pass p (set w i 120)) (set w i 120) w
      go true = rw (le-ltb (eithers w) 16 h)
      go false = refl

  -- no bit
  pub at_other : is_bit (get_or w i 0) ≡ false → w ≡ widen_at p w i
  unfolding widen_at
  at_other e = rw e

  module _ (h : T (all_pass p w)) (b : Bit (get_or w i 0)) (l : eithers w < 16) where
    decided : widen_at p w i ≡ cond (all_pass p (set w i (97 - get_or w i 0))) (set w i 120) w
    unfolding widen_at
    decided =
        ap (λ (t : Bool). cond (t && ltb (eithers w) 16 && all_pass p (set w i 120)) (set w i 120) w) (bit_test (get_or w i 0) b)
        ∙ ap (λ (t : Bool). cond (true && t && all_pass p (set w i 120)) (set w i 120) w) (lt-ltb (eithers w) 16 l)
        ∙ ap (λ (t : Bool). cond t (set w i 120) w) (either-half p w i h b)

    -- every completion with the other bit passes
    pub at-taken : true ≡ all_pass p (set w i (97 - get_or w i 0)) → set (set w i (97 - get_or w i 0)) i 120 ≡ widen_at p w i
    at-taken e = set-set w i (97 - get_or w i 0) 120 ∙ sym (decided ∙ ap (λ (t : Bool). cond t (set w i 120) w) (sym e))

    -- one does not
    pub at-kept : false ≡ all_pass p (set w i (97 - get_or w i 0)) → set (set w i (97 - get_or w i 0)) i (get_or w i 0) ≡ widen_at p w i
    at-kept e =
        set-set w i (97 - get_or w i 0) (get_or w i 0) ∙ set-get_or w i 0 ∙ sym (decided ∙ ap (λ (t : Bool). cond t (set w i 120) w) (sym e))

-- ---- the body stays one that fits

fits-cond : {c : Circuit} {b frames count : ℕ} {w : List ℕ} (p : List ℕ → Bool) (i : ℕ) → Fits c b frames count w → (t : Bool)
    → (is_bit (get_or w i 0) && ltb (eithers w) 16 && all_pass p (set w i 120)) ≡ t
    → Fits c b frames (eithers (cond t (set w i 120) w)) (cond t (set w i 120) w)
fits-cond {c} {b} {frames} {w = w} p i F false e = subst (λ (n : ℕ). Fits c b frames n w) F.eithers-are F
fits-cond {c} {b} {frames} {count} {w} p i F true e =
    let t : T (is_bit (get_or w i 0) && ltb (eithers w) 16 && all_pass p (set w i 120)) = T_true e in
    let s = and_left (is_bit (get_or w i 0) && ltb (eithers w) 16) (all_pass p (set w i 120)) t in
    let y : Bit (get_or w i 0) = test_bit (get_or w i 0) (true-T (is_bit (get_or w i 0)) (and_left (is_bit (get_or w i 0)) (ltb (eithers w) 16) s)) in
    let n : eithers w < 16 = ltb-true (eithers w) 16 (true-T (ltb (eithers w) 16) (and_right (is_bit (get_or w i 0)) (ltb (eithers w) 16) s)) in
    let G : Fits c b frames (count + 1) (set w i 120) = fits-either F i y (omega (arith, F.eithers-are)) in
    subst (λ (k : ℕ). Fits c b frames k (set w i 120)) G.eithers-are G

pub fits_widen : {c : Circuit} {b frames count : ℕ} {w : List ℕ} (p : List ℕ → Bool) (i : ℕ) → Fits c b frames count w
    → Fits c b frames (eithers (widen_at p w i)) (widen_at p w i)
unfolding widen_at
fits_widen {w = w} p i F = fits-cond p i F (is_bit (get_or w i 0) && ltb (eithers w) 16 && all_pass p (set w i 120)) refl

-- one position more
pub below_next : (p : List ℕ → Bool) (w : List ℕ) (i : ℕ) → 0 < i → widen_below p (widen_at p w (i - 1)) (i - 1) ≡ widen_below p w i
unfolding widen_below
below_next p w i h = let e : suc (i - 1) ≡ i = omega arith in ap (widen_below p w) e

pub below_none : (p : List ℕ → Bool) (w : List ℕ) (i : ℕ) → i ≤ 0 → widen_below p w i ≡ w
unfolding widen_below
below_none p w i h = let e : i ≡ 0 = omega arith in ap (widen_below p w) e

-- ---- how many x there are after a try

pub taken-count : (w : List ℕ) (i x count : ℕ) → Bit (get_or w i 0) → count ≡ eithers w → count + 1 ≡ eithers (set (set w i x) i 120)
taken-count w i x count b e = ap (λ (n : ℕ). n + 1) e ∙ sym (eithers-set w i b) ∙ ap eithers (sym (set-set w i x 120))

pub kept-count : (w : List ℕ) (i x count : ℕ) → count ≡ eithers w → count ≡ eithers (set (set w i x) i (get_or w i 0))
kept-count w i x count e = e ∙ ap eithers (sym (set-set w i x (get_or w i 0) ∙ set-get_or w i 0))

pub bit-small : (c : ℕ) → Bit c → c ≤ 97
bit-small c (inl e) = omega arith
bit-small c (inr e) = omega arith
