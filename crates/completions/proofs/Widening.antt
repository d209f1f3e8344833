-- Widening, for any test of completions: what was widened passes, has the given completions among its own, takes no further `x`, and
-- stays as it is when it is widened again. Assumes nothing.
use mathlib.Core.Path.{◌≡◌, refl, sym, ap, ◌∙◌, subst}
use mathlib.Core.Bool.{Bool, true, false, cond, ◌&&◌}
use mathlib.Core.List.{List}
use mathlib.Core.Logic.{◌⊎◌, inl, inr, ⊎_elim}
use Prim.Native.Nat.{ℕ, zero, suc, ◌+◌, ◌-◌, ◌≤◌, ◌<◌}
use native.Mathlib.Decide.{dec_lt, ℕ_discrete}
use native.Mathlib.Omega.{arith}
use borrow.Author.Tests.{lt-ltb, le-ltb, ltb-true}
use lib.Dec.{T, ltb}
use lib.ListN.{length, get_or, set, length-set}
use lib.Seq.{get_or-set_same, get_or-set_other, set-get_or, set-set}
use Rattle.completions.specs.Either.{eithers, is_bit, all_pass, widen_at, widen_below, widened}
use Rattle.aiger.proofs.Tests.{and_left, and_right, and, true-T, T_true}
use Rattle.completions.specs.Forms.{Bit, Completed, Completes}
use Rattle.completions.proofs.Completions.{all-at, all_from}
use Rattle.completions.proofs.Forms.{bit-other, bit_test, test_bit, other-bit, bit-inside, completes-either, either-bit, eithers-set}
pub use Rattle.aiger.proofs.Tests.{both_ways}

-- y is w, but for `x` in place of some bits
pub record Wider (w y : List ℕ) : Type 0 where
  pub size : length y ≡ length w
  pub at : (j : ℕ) → (get_or y j 0 ≡ get_or w j 0) ⊎ ((get_or y j 0 ≡ 120) × Bit (get_or w j 0))

pub wider-self : (w : List ℕ) → Wider w w
wider-self w = record { size = refl; at = λ j. inl refl }

pub wider-more : {w x y : List ℕ} → Wider w x → Wider x y → Wider w y
wider-more {w} {x} {y} a b =
    record {
      size = b.size ∙ a.size;
      at = λ j.
          ⊎_elim
          (λ e. ⊎_elim (λ q. inl (e ∙ q)) (λ q. inr (e ∙ q.0, q.1)) (a.at j))
          (λ e. ⊎_elim (λ q. inr (e.0, subst Bit q e.1)) (λ q. inr (e.0, q.1)) (a.at j))
          (b.at j);
    }

-- `x` in place of one bit
pub wider-set : (w : List ℕ) (i : ℕ) → Bit (get_or w i 0) → Wider w (set w i 120)
wider-set w i b =
    record {
      size = length-set w i 120;
      at = λ j.
          elim (ℕ_discrete j i) [
            | yes e ↦ inr (ap (λ (k : ℕ). get_or (set w i 120) k 0) e ∙ get_or-set_same w i 120 0 (bit-inside w i b), subst (λ (k : ℕ). Bit (get_or w k 0)) (sym e) b)
            | no n ↦ inl (get_or-set_other w i j 120 0 n)
          ];
    }

-- `x` at the same place in both
pub wider-both : {w y : List ℕ} (i : ℕ) → i < length w → Wider w y → Wider (set w i 120) (set y i 120)
wider-both {w} {y} i l h =
    record {
      size = length-set y i 120 ∙ h.size ∙ sym (length-set w i 120);
      at = λ j.
          elim (ℕ_discrete j i) [
            | yes e ↦ inl (go j e)
            | no n ↦
                let a = get_or-set_other y i j 120 0 n in
                let b = get_or-set_other w i j 120 0 n in
                ⊎_elim (λ q. inl (a ∙ q ∙ sym b)) (λ q. inr (a ∙ q.0, subst Bit (sym b) q.1)) (h.at j)
          ];
    }
  where
    go : (j : ℕ) → j ≡ i → get_or (set y i 120) j 0 ≡ get_or (set w i 120) j 0
    go j e =
        ap (λ (k : ℕ). get_or (set y i 120) k 0) e ∙ get_or-set_same y i 120 0 (omega (arith, h.size)) ∙ sym (get_or-set_same w i 120 0 l)
        ∙ ap (λ (k : ℕ). get_or (set w i 120) k 0) (sym e)

-- the completions of a text are completions of a wider one
pub wider-completes : {w y u : List ℕ} → Wider w y → Completes w u → Completes y u
wider-completes {w} {y} {u} h q =
    record {
      size = q.size ∙ sym h.size;
      at = λ j.
          ⊎_elim
          (λ e. subst (λ (c : ℕ). Completed c (get_or u j 0)) (sym e) (q.at j))
          (λ e. record {
            either = λ _. subst Bit (sym ((q.at j).other (bit-other e.1))) e.1;
            other = λ n. absurd (n e.0);
          })
          (h.at j);
    }

module _ (p : List ℕ → Bool) where
  -- a text whose completions are among those of one that passes
  pub all-fewer : (w x : List ℕ) → ((u : List ℕ) → Completes w u → Completes x u) → T (all_pass p x) → T (all_pass p w)
  all-fewer w x f h = all_from p w (λ u q. all-at p x h u (f u q))

  -- ---- one bit: the completions that have the other bit decide

  pub either-half : (w : List ℕ) (i : ℕ) → T (all_pass p w) → Bit (get_or w i 0) → all_pass p (set w i 120) ≡ all_pass p (set w i (97 - get_or w i 0))
  either-half w i h b =
      let d : ℕ = 97 - get_or w i 0 in
      let l : i < length w = bit-inside w i b in
      let e : get_or (set w i d) i 0 ≡ d = get_or-set_same w i d 0 l in
      both_ways (all_pass p (set w i 120)) (all_pass p (set w i d))
      (all-fewer (set w i d) (set w i 120)
      (λ u q. subst (λ (x : List ℕ). Completes x u) (set-set w i d 120) (completes-either (set w i d) i (subst Bit (sym e) (other-bit (get_or w i 0) b)) q)))
      (λ k. all_from p (set w i 120) (λ u q. ⊎_elim (all-at p w h u) (all-at p (set w i d) k u) (either-bit w i b q)))

  -- what widening does at position i
  pub record Step (w : List ℕ) (i : ℕ) (x : List ℕ) : Type 0 where
    pub passes : T (all_pass p w) → T (all_pass p x)
    pub wider : Wider w x
    pub more : eithers w ≤ eithers x
    pub elsewhere : (j : ℕ) → (j ≡ i → ⊥) → get_or x j 0 ≡ get_or w j 0
    pub refused : Bit (get_or x i 0) → eithers x < 16 → T (all_pass p (set w i 120)) → ⊥
    pub few : eithers w ≤ 16 → eithers x ≤ 16

  by-test : (w : List ℕ) (i : ℕ) (b : Bool) → (is_bit (get_or w i 0) && ltb (eithers w) 16 && all_pass p (set w i 120)) ≡ b → Step w i (cond b (set w i 120) w)
  by-test w i true e =
      let t : T (is_bit (get_or w i 0) && ltb (eithers w) 16 && all_pass p (set w i 120)) = T_true e in
      let s = and_left (is_bit (get_or w i 0) && ltb (eithers w) 16) (all_pass p (set w i 120)) t in
      let b : Bit (get_or w i 0) = test_bit (get_or w i 0) (true-T (is_bit (get_or w i 0)) (and_left (is_bit (get_or w i 0)) (ltb (eithers w) 16) s)) in
      let n : eithers w < 16 = ltb-true (eithers w) 16 (true-T (ltb (eithers w) 16) (and_right (is_bit (get_or w i 0)) (ltb (eithers w) 16) s)) in
      let k : eithers (set w i 120) ≡ eithers w + 1 = eithers-set w i b in
      let x : get_or (set w i 120) i 0 ≡ 120 = get_or-set_same w i 120 0 (bit-inside w i b) in
      record {
        passes = λ _. and_right (is_bit (get_or w i 0) && ltb (eithers w) 16) (all_pass p (set w i 120)) t;
        wider = wider-set w i b;
        more = omega arith;
        elsewhere = λ j d. get_or-set_other w i j 120 0 d;
        refused = λ y l a. bit-other y x;
        few = λ _. omega arith;
      }
  by-test w i false e =
      record {
        passes = λ h. h;
        wider = wider-self w;
        more = omega arith;
        elsewhere = λ j d. refl;
        refused = λ y l a.
            let t : T (is_bit (get_or w i 0) && ltb (eithers w) 16 && all_pass p (set w i 120)) =
            and (is_bit (get_or w i 0) && ltb (eithers w) 16) (all_pass p (set w i 120))
            (and (is_bit (get_or w i 0)) (ltb (eithers w) 16) (T_true (bit_test (get_or w i 0) y)) (T_true (lt-ltb (eithers w) 16 l))) a in
            subst T e t;
        few = λ l. l;
      }

  pub step : (w : List ℕ) (i : ℕ) → Step w i (widen_at p w i)
  unfolding widen_at
  step w i = by-test w i (is_bit (get_or w i 0) && ltb (eithers w) 16 && all_pass p (set w i 120)) refl

  -- ---- all positions

  -- what widening the positions below n does
  pub record Steps (w : List ℕ) (n : ℕ) (x : List ℕ) : Type 0 where
    pub passes : T (all_pass p w) → T (all_pass p x)
    pub wider : Wider w x
    pub more : eithers w ≤ eithers x
    pub elsewhere : (j : ℕ) → n ≤ j → get_or x j 0 ≡ get_or w j 0
    pub refused : (j : ℕ) → j < n → Bit (get_or x j 0) → eithers x < 16 → T (all_pass p (set x j 120)) → ⊥
    pub few : eithers w ≤ 16 → eithers x ≤ 16

  pub steps : (w : List ℕ) (n : ℕ) → Steps w n (widen_below p w n)
  unfolding widen_below
  steps w zero =
      record {
        passes = λ h. h;
        wider = wider-self w;
        more = omega arith;
        elsewhere = λ j l. refl;
        refused = λ j l b m t. omega arith;
        few = λ l. l;
      }
  steps w (suc i) = go (widen_at p w i) (step w i) (widen_below p (widen_at p w i) i) (steps (widen_at p w i) i)
    where
      go : (x : List ℕ) → Step w i x → (y : List ℕ) → Steps x i y → Steps w (suc i) y
      go x s y t =
          record {
            passes = λ h. t.passes (s.passes h);
            wider = wider-more s.wider t.wider;
            more = omega (arith, s.more, t.more);
            elsewhere = λ j l. t.elsewhere j (omega arith) ∙ s.elsewhere j (λ e. omega arith);
            refused = λ j l b m h.
                elim (ℕ_discrete j i) [
                  | yes e ↦ last (subst (λ (k : ℕ). Bit (get_or y k 0)) e b) m (subst (λ (k : ℕ). T (all_pass p (set y k 120))) e h)
                  | no n ↦ t.refused j (omega arith) b m h
                ];
            few = λ l. t.few (s.few l);
          }
        where
          -- position i was refused while the text had fewer `x`, so it is refused with more
          last : Bit (get_or y i 0) → eithers y < 16 → T (all_pass p (set y i 120)) → ⊥
          last b m h =
              let here : get_or y i 0 ≡ get_or x i 0 = t.elsewhere i (omega arith) in
              let wide : Wider w y = wider-more s.wider t.wider in
              let l : i < length w = omega (arith, bit-inside y i b, wide.size) in
              s.refused (subst Bit here b) (omega (arith, t.more))
              (all-fewer (set w i 120) (set y i 120) (λ u q. wider-completes (wider-both i l wide) q) h)

  -- ---- the widened text

  module _ (w : List ℕ) where
    -- not every completion passes: the text stays
    pub widened-not : all_pass p w ≡ false → widened p w ≡ w
    unfolding widened
    widened-not e = rw e

    pub widened-steps : all_pass p w ≡ true → widened p w ≡ widen_below p w (length w)
    unfolding widened
    widened-steps e = rw e

    -- the widened text is the text, but for `x` in place of some bits
    pub widened-wider : Wider w (widened p w)
    widened-wider = go (all_pass p w) refl
      where
        go : (b : Bool) → all_pass p w ≡ b → Wider w (widened p w)
        go true e = subst (Wider w) (sym (widened-steps e)) (steps w (length w)).wider
        go false e = subst (Wider w) (sym (widened-not e)) (wider-self w)

    module _ (h : T (all_pass p w)) where
      passing : all_pass p w ≡ true
      passing = true-T (all_pass p w) h

      -- every completion of the widened text passes
      pub widened-passes : T (all_pass p (widened p w))
      widened-passes = subst (λ (x : List ℕ). T (all_pass p x)) (sym (widened-steps passing)) ((steps w (length w)).passes h)

      -- it holds at most 16 `x`, where the text does
      pub widened-few : eithers w ≤ 16 → eithers (widened p w) ≤ 16
      widened-few l = subst (λ (x : List ℕ). eithers x ≤ 16) (sym (widened-steps passing)) ((steps w (length w)).few l)

      -- with fewer than 16 `x` no further single one can be added
      pub widened-full : eithers (widened p w) < 16 → (i : ℕ) → Bit (get_or (widened p w) i 0) → T (all_pass p (set (widened p w) i 120)) → ⊥
      widened-full l i b t =
          let k : i < length w = omega (arith, bit-inside (widened p w) i b, widened-wider.size) in
          let e : widened p w ≡ widen_below p w (length w) = widened-steps passing in
          (steps w (length w)).refused i k (subst (λ (x : List ℕ). Bit (get_or x i 0)) e b) (subst (λ (x : List ℕ). eithers x < 16) e l)
          (subst (λ (x : List ℕ). T (all_pass p (set x i 120))) e t)

  -- ---- widened again

  -- a text to which no `x` can be added stays
  stays_at : (x : List ℕ) (i : ℕ) → (Bit (get_or x i 0) → eithers x < 16 → T (all_pass p (set x i 120)) → ⊥) → widen_at p x i ≡ x
  unfolding widen_at
  stays_at x i n = go (is_bit (get_or x i 0) && ltb (eithers x) 16 && all_pass p (set x i 120)) refl
    where
      go : (b : Bool) → (is_bit (get_or x i 0) && ltb (eithers x) 16 && all_pass p (set x i 120)) ≡ b → cond b (set x i 120) x ≡ x
      go false e = refl
      go true e =
          let t : T (is_bit (get_or x i 0) && ltb (eithers x) 16 && all_pass p (set x i 120)) = T_true e in
          let s = and_left (is_bit (get_or x i 0) && ltb (eithers x) 16) (all_pass p (set x i 120)) t in
          absurd
          (n (test_bit (get_or x i 0) (true-T (is_bit (get_or x i 0)) (and_left (is_bit (get_or x i 0)) (ltb (eithers x) 16) s)))
          (ltb-true (eithers x) 16 (true-T (ltb (eithers x) 16) (and_right (is_bit (get_or x i 0)) (ltb (eithers x) 16) s)))
          (and_right (is_bit (get_or x i 0) && ltb (eithers x) 16) (all_pass p (set x i 120)) t))

  stays : (x : List ℕ) → ((i : ℕ) → Bit (get_or x i 0) → eithers x < 16 → T (all_pass p (set x i 120)) → ⊥) → (n : ℕ) → widen_below p x n ≡ x
  unfolding widen_below
  stays x h zero = refl
  stays x h (suc i) = ap (λ (y : List ℕ). widen_below p y i) (stays_at x i (h i)) ∙ stays x h i

  -- widening twice is widening once
  pub widened-again : (w : List ℕ) → widened p (widened p w) ≡ widened p w
  widened-again w = go (all_pass p w) refl
    where
      go : (b : Bool) → all_pass p w ≡ b → widened p (widened p w) ≡ widened p w
      go true e =
          let h : T (all_pass p w) = T_true e in
          widened-steps (widened p w) (true-T (all_pass p (widened p w)) (widened-passes w h))
          ∙ stays (widened p w) (λ i b l t. widened-full w h l i b t) (length (widened p w))
      go false e = ap (widened p) (widened-not w e)
