-- A stage that goes on from the frame that it has reached: it says what is so, and what a bound lets be seen of it. Assumes nothing.
use mathlib.Core.Path.{◌≡◌, refl, sym, ap, ◌∙◌, subst}
use mathlib.Core.Bool.{Bool, true, false, cond}
use Prim.Native.Nat.{ℕ, zero, suc, ◌≤◌, ◌<◌}
use native.Mathlib.Omega.{arith}
use borrow.Author.Tests.{leb-true, leb-false, le-leb}
use lib.Dec.{leb}
use Rattle.aiger.specs.Search.{Question}
use Rattle.stages.specs.Endings.{Ending, Cut, Staged, Endings, cut_at, NoneBefore, EndsRight}
use Rattle.stages.proofs.Lists.{from_first, right-earlier}
use Rattle.stages.proofs.Choice.{past_bound}
use Rattle.staged.specs.Schedule.{onward, gone_on}

-- what is seen is no frame at which the stage gives up
abbrev pub Over : Cut → Type 0
Over (Cut.hit t x) = Unit {0}
Over Cut.never = Unit {0}
Over Cut.none = Unit {0}
Over (Cut.gave_up t) = ⊥
Over (Cut.cut_off t) = Unit {0}

abbrev left : Cut → ℕ
left (Cut.hit t x) = 0
left Cut.never = 0
left Cut.none = 0
left (Cut.gave_up t) = t
left (Cut.cut_off t) = 0

-- a stage that is seen to give up at a frame gives up there
pub cut-gave-up : (k : ℕ) (e : Ending) (t : ℕ) → cut_at k e ≡ Cut.gave_up t → (e ≡ Ending.gave_up t) × (t ≤ k)
cut-gave-up k (Ending.hit u x) t h = go (leb u k) h
  where
    go : (p : Bool) → cond p (Cut.hit u x) Cut.none ≡ Cut.gave_up t → (Ending.hit u x ≡ Ending.gave_up t) × (t ≤ k)
    go true d = absurd (subst Over d tt)
    go false d = absurd (subst Over d tt)
cut-gave-up k (Ending.never u) t h = go (leb u k) h
  where
    go : (p : Bool) → cond p Cut.never Cut.none ≡ Cut.gave_up t → (Ending.never u ≡ Ending.gave_up t) × (t ≤ k)
    go true d = absurd (subst Over d tt)
    go false d = absurd (subst Over d tt)
cut-gave-up k Ending.clear t h = absurd (subst Over h tt)
cut-gave-up k (Ending.gave_up u) t h = go (leb u k) refl h
  where
    go : (p : Bool) → leb u k ≡ p → cond p (Cut.gave_up u) Cut.none ≡ Cut.gave_up t → (Ending.gave_up u ≡ Ending.gave_up t) × (t ≤ k)
    go true e d =
        let same : u ≡ t = ap left d in
        (ap (λ (i : ℕ). Ending.gave_up i) same, omega (arith, leb-true u k e, same))
    go false e d = absurd (subst Over d tt)

module _ (q : Question) (far : ℕ → ℕ → Bool) (s : Endings)
    (right : (first : ℕ) → first ≤ 256 → NoneBefore q first → EndsRight q first (s first)) where
  pub on-right : (n first : ℕ) → first ≤ 256 → NoneBefore q first → EndsRight q first (gone_on far s n first)
  unfolding gone_on
  on-right zero first l none = (omega arith, l, none)
  on-right (suc n) first l none = go (s first) (right first l none) (on-right n)
    where
      go : (e : Ending) → EndsRight q first e → ((t : ℕ) → t ≤ 256 → NoneBefore q t → EndsRight q t (gone_on far s n t))
          → EndsRight q first (onward far first e (gone_on far s n))
      go (Ending.hit t x) h r = h
      go (Ending.never t) h r = h
      go Ending.clear h r = h
      go (Ending.gave_up t) (a, b, d) r = by (far first t)
        where
          by : (p : Bool) → EndsRight q first (cond p (gone_on far s n t) (Ending.gave_up t))
          by true = right-earlier q first t a (Staged.ends (gone_on far s n t)) (r t b d)
          by false = (a, b, d)

  module _ (k n first : ℕ) (l : first ≤ 256) (none : NoneBefore q first) where
    -- what is seen of a stage that does not give up within the bound is seen where it goes on
    pub on-over : Over (cut_at k (s first)) → cut_at k (gone_on far s (suc n) first) ≡ cut_at k (s first)
    unfolding gone_on
    on-over h = go (s first) (right first l none) h
      where
        go : (e : Ending) → EndsRight q first e → Over (cut_at k e) → cut_at k (onward far first e (gone_on far s n)) ≡ cut_at k e
        go (Ending.hit t x) r o = refl
        go (Ending.never t) r o = refl
        go Ending.clear r o = refl
        go (Ending.gave_up t) (a, b, d) o = past (leb t k) refl o
          where
            by : k < t → (p : Bool) → cut_at k (cond p (gone_on far s n t) (Ending.gave_up t)) ≡ Cut.none
            by m true =
                past_bound k t m (Staged.ends (gone_on far s n t)) (from_first q t (Staged.ends (gone_on far s n t)) (on-right n t b d))
            by m false = past_bound k t m (Staged.ends (Ending.gave_up t)) (omega arith)

            past : (p : Bool) → leb t k ≡ p → Over (cond p (Cut.gave_up t) Cut.none)
                → cut_at k (cond (far first t) (gone_on far s n t) (Ending.gave_up t)) ≡ cond p (Cut.gave_up t) Cut.none
            past true e x = absurd x
            past false e x = by (leb-false t k e) (far first t)

    -- where it gives up within the bound, no frame before has a hit
    pub on_none : (t : ℕ) → cut_at k (s first) ≡ Cut.gave_up t → NoneBefore q t
    on_none t h = (subst (EndsRight q first) (cut-gave-up k (s first) t h).0 (right first l none)).2

    -- and it goes on from there where that is far enough
    pub on-more : (t : ℕ) → cut_at k (s first) ≡ Cut.gave_up t → far first t ≡ true → gone_on far s (suc n) first ≡ gone_on far s n t
    unfolding gone_on
    on-more t h f =
        ap (λ (e : Ending). onward far first e (gone_on far s n)) (cut-gave-up k (s first) t h).0
        ∙ ap (λ (p : Bool). cond p (gone_on far s n t) (Ending.gave_up t)) f

    pub on-stop : (t : ℕ) → cut_at k (s first) ≡ Cut.gave_up t → far first t ≡ false → cut_at k (gone_on far s (suc n) first) ≡ Cut.gave_up t
    unfolding gone_on
    on-stop t h f =
        ap (λ (e : Ending). cut_at k (onward far first e (gone_on far s n))) (cut-gave-up k (s first) t h).0
        ∙ ap (λ (p : Bool). cut_at k (cond p (gone_on far s n t) (Ending.gave_up t))) f
        ∙ ap (λ (p : Bool). cond p (Cut.gave_up t) Cut.none) (le-leb t k (cut-gave-up k (s first) t h).1)

  -- no turn is left
  pub on-end : (first : ℕ) → gone_on far s 0 first ≡ Ending.gave_up first
  unfolding gone_on
  on-end first = refl
