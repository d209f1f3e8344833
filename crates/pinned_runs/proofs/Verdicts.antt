-- Verdicts and widening under pins, for any test of completions and any pins of the places of a text. Assumes nothing.
use mathlib.Core.Path.{◌≡◌, refl, sym, ap, ap₂, ◌∙◌, subst}
use mathlib.Core.Bool.{Bool, true, false, not, cond, ◌&&◌}
use mathlib.Core.List.{List, [], ◌∷◌}
use mathlib.Core.Logic.{◌⊎◌, inl, inr, ⊎_elim}
use Prim.Native.Nat.{ℕ, zero, suc, ◌+◌, ◌-◌, ◌≤◌, ◌<◌}
use native.Mathlib.Decide.{dec_lt, ℕ_discrete}
use native.Mathlib.Omega.{arith}
use lib.Dec.{T, ltb, eqb}
use lib.ListN.{length, get_or, set, length-set}
use lib.Seq.{get_or-set_same, get_or-set_other}
use Rattle.aiger.specs.Lists.{every_below}
use Rattle.aiger.proofs.Tests.{and_left, and_right, below_at, T_true, true-T, not_T, not-both}
use Rattle.completions.specs.Either.{is_either, is_bit, eithers, completion, all_pass, none_passes, Verdict, verdict, widen_at, widened}
use Rattle.completions.specs.Forms.{Bit, Symbol, Completed, Completes, SameForm}
use Rattle.completions.proofs.Completions.{completes, all-at, all_from, none-at, none_from}
use Rattle.completions.proofs.Forms.{completes-form, bit-other, bit-inside, test_bit, form-set, completes-either}
use Rattle.completions.proofs.Widening.{both_ways, widened-not}
use Rattle.pins.specs.Pins.{is_held}
use Rattle.pinned_runs.specs.Places.{agrees_at, Settled, demoted}
use Rattle.pinned_runs.proofs.Pinned.{true-false, Obeying, wrong-bit, wrong-disobeys, obeys-agrees, loose-place, completes-set, disobeying, exact-obeying, clash, settled_up, settled-obeying, settled-down}

-- a completion passes p' where it passes p and obeys
pub record Under (P : ℕ → ℕ) (p p' : List ℕ → Bool) (w : List ℕ) : Type 0 where
  pub down : (u : List ℕ) → SameForm w u → T (p' u) → T (p u) × Obeying P u
  pub up : (u : List ℕ) → SameForm w u → T (p u) → Obeying P u → T (p' u)
  pub past : (k : ℕ) → length w ≤ k → is_held (P k) ≡ false

-- a test that fails below n fails somewhere
below_fails : (n : ℕ) (f : ℕ → Bool) → every_below n f ≡ false → (k : ℕ) × (f k ≡ false)
below_fails zero f e = absurd (true-false e)
below_fails (suc n) f e = go (every_below n f) refl (f n) refl e (below_fails n f)
  where
    go : (a : Bool) → every_below n f ≡ a → (b : Bool) → f n ≡ b → (a && b) ≡ false → (every_below n f ≡ false → (k : ℕ) × (f k ≡ false)) → (k : ℕ) × (f k ≡ false)
    go false q b r s i = i q
    go true q false r s i = (n, r)
    go true q true r s i = absurd (true-false s)

-- what is `x` stands within a text
either-inside : (w : List ℕ) (k : ℕ) → get_or w k 0 ≡ 120 → k < length w
either-inside [] k e = absurd (omega arith)
either-inside (c ∷ w) zero e = omega arith
either-inside (c ∷ w) (suc k) e = omega (arith, either-inside w k e)

module _ {P : ℕ → ℕ} {p p' : List ℕ → Bool} {w : List ℕ} (U : Under P p p' w) where
  -- the places of w that agree, as a test
  abbrev tested : Bool → Bool
  tested loose = every_below (length w) (λ k. agrees_at loose (P k) (get_or w k 0))

  abbrev Agree : Bool → Type 0
  Agree loose = (k : ℕ) → T (agrees_at loose (P k) (get_or w k 0))

  pub agree-all : (loose : Bool) → T (every_below (length w) (λ k. agrees_at loose (P k) (get_or w k 0))) → (k : ℕ) → T (agrees_at loose (P k) (get_or w k 0))
  agree-all loose t k =
      elim (dec_lt k (length w)) [
        | yes l ↦ below_at (length w) (λ k. agrees_at loose (P k) (get_or w k 0)) t k l
        | no n ↦ rw (U.past k (omega arith)) tt
      ]

  first : SameForm w (completion 0 w)
  first = completes-form (completes 0 w)

  -- where every completion passes, every held place has its pin's bit
  pub all-exact : T (all_pass p' w) → (k : ℕ) → T (agrees_at false (P k) (get_or w k 0))
  all-exact t k = go (agrees_at false (P k) (get_or w k 0)) refl
    where
      passes : (u : List ℕ) → Completes w u → Obeying P u
      passes u h = (U.down u (completes-form h) (all-at p' w t u h)).1

      go : (b : Bool) → agrees_at false (P k) (get_or w k 0) ≡ b → T b
      go true e = tt
      go false e =
          let a = obeys-agrees (P k) (get_or w k 0) (get_or (completion 0 w) k 0) (passes (completion 0 w) (completes 0 w) k) ((completes 0 w).at k) in
          let l = loose-place (P k) (get_or w k 0) a e in
          let d = disobeying P w k l.0 l.1 (either-inside w k l.1) in
          d.2 (passes d.0 d.1)

  pub all-down : T (all_pass p' w) → T (all_pass p w)
  all-down t = all_from p w (λ u h. (U.down u (completes-form h) (all-at p' w t u h)).0)

  module _ (a : (k : ℕ) → T (agrees_at false (P k) (get_or w k 0))) where
    pub exact-all : all_pass p' w ≡ all_pass p w
    exact-all =
        both_ways (all_pass p' w) (all_pass p w) all-down
        (λ t. all_from p' w (λ u h. U.up u (completes-form h) (all-at p w t u h) (exact-obeying P w a u h)))

    exact_none : none_passes p' w ≡ none_passes p w
    exact_none =
        both_ways (none_passes p' w) (none_passes p w)
        (λ t. none_from p w (λ u h. not_T (p u) (λ x. not-both (p' u) (none-at p' w t u h) (U.up u (completes-form h) x (exact-obeying P w a u h)))))
        (λ t. none_from p' w (λ u h. not_T (p' u) (λ x. not-both (p u) (none-at p w t u h) (U.down u (completes-form h) x).0)))

    pub exact-verdict : verdict p' w ≡ verdict p w
    unfolding verdict
    exact-verdict = ap₂ (λ (x y : Bool). cond x Verdict.all (cond y Verdict.no Verdict.mixed)) exact-all exact_none

  -- not every completion passes where the first does not
  not-all : (u : List ℕ) → Completes w u → (Obeying P u → ⊥) → all_pass p' w ≡ false
  not-all u h n =
      both_ways (all_pass p' w) false (λ t. n (U.down u (completes-form h) (all-at p' w t u h)).1) (λ t. absurd t)

  -- a place that differs from its pin: no completion passes
  pub clash-verdict : every_below (length w) (λ k. agrees_at true (P k) (get_or w k 0)) ≡ false → verdict p' w ≡ Verdict.no
  unfolding verdict
  clash-verdict e =
      let k = below_fails (length w) (λ k. agrees_at true (P k) (get_or w k 0)) e in
      let n : T (none_passes p' w) =
      none_from p' w (λ u h. not_T (p' u) (λ x. clash P w k.0 k.1 u h (U.down u (completes-form h) x).1)) in
      ap₂ (λ (x y : Bool). cond x Verdict.all (cond y Verdict.no Verdict.mixed))
      (not-all (completion 0 w) (completes 0 w) (clash P w k.0 k.1 (completion 0 w) (completes 0 w))) (true-T (none_passes p' w) n)

  -- a place that is not exact: not every completion passes
  pub loose-not : every_below (length w) (λ k. agrees_at false (P k) (get_or w k 0)) ≡ false → all_pass p' w ≡ false
  loose-not e =
      let k = below_fails (length w) (λ k. agrees_at false (P k) (get_or w k 0)) e in
      both_ways (all_pass p' w) false (λ t. subst T k.1 (all-exact t k.0)) (λ t. absurd t)

  module _ (a : (k : ℕ) → T (agrees_at true (P k) (get_or w k 0))) (e : every_below (length w) (λ k. agrees_at false (P k) (get_or w k 0)) ≡ false)
      {s : List ℕ} (S : Settled P w s) where
    settled-none : none_passes p' w ≡ none_passes p s
    settled-none =
        both_ways (none_passes p' w) (none_passes p s)
        (λ t. none_from p s
        (λ u h.
        let q = settled_up P w S h in
        not_T (p u) (λ x. not-both (p' u) (none-at p' w t u q) (U.up u (completes-form q) x (settled-obeying P w S a h)))))
        (λ t. none_from p' w
        (λ u h.
        not_T (p' u)
        (λ x.
        let y = U.down u (completes-form h) x in
        not-both (p u) (none-at p s t u (settled-down P w S h y.1)) y.0)))

    -- `x` at a held place: the verdict by the text with the pins' bits, where all is mixed
    pub loose-verdict : verdict p' w ≡ demoted (verdict p s)
    unfolding verdict
    loose-verdict =
        ap₂ (λ (x y : Bool). cond x Verdict.all (cond y Verdict.no Verdict.mixed)) (loose-not e) settled-none ∙ go (all_pass p s) refl (none_passes p s) refl
      where
        go : (x : Bool) → all_pass p s ≡ x → (y : Bool) → none_passes p s ≡ y → cond y Verdict.no Verdict.mixed ≡ demoted (cond x Verdict.all (cond y Verdict.no Verdict.mixed))
        go false q true r = refl
        go false q false r = refl
        go true q false r = refl
        go true q true r =
            let h = completes 0 s in
            absurd (not-both (p (completion 0 s)) (none-at p s (T_true r) (completion 0 s) h) (all-at p s (T_true q) (completion 0 s) h))

  -- ---- widening at one place

  module _ (t : T (all_pass p' w)) (i : ℕ) where
    and-false : (a b : Bool) → b ≡ false → (a && b) ≡ false
    and-false true b e = e
    and-false false b e = refl

    -- a text of the form with `x` in place of a bit has the form
    wide_form : Bit (get_or w i 0) → {u : List ℕ} → SameForm (set w i 120) u → SameForm w u
    wide_form b h = form-set w i 120 (bit-inside w i b) (inl b) (inr refl) h

    by_bit : (x : Bool) → (Bit (get_or w i 0) → all_pass p' (set w i 120) ≡ x) → (is_bit (get_or w i 0) && ltb (eithers w) 16 && all_pass p' (set w i 120)) ≡ (is_bit (get_or w i 0) && ltb (eithers w) 16 && x)
    by_bit x f = go (is_bit (get_or w i 0)) refl
      where
        go : (b : Bool) → is_bit (get_or w i 0) ≡ b → (b && ltb (eithers w) 16 && all_pass p' (set w i 120)) ≡ (b && ltb (eithers w) 16 && x)
        go true q = ap (λ (y : Bool). true && ltb (eithers w) 16 && y) (f (test_bit (get_or w i 0) q))
        go false q = refl

    -- at a held place nothing changes
    pub held_stays : is_held (P i) ≡ true → widen_at p' w i ≡ w
    unfolding widen_at
    held_stays h =
        ap (λ (x : Bool). cond x (set w i 120) w) (by_bit false none ∙ and-false (is_bit (get_or w i 0) && ltb (eithers w) 16) false refl)
      where
        none : Bit (get_or w i 0) → all_pass p' (set w i 120) ≡ false
        none b =
            let y : List ℕ = set w i 120 in
            let l : i < length y = omega (arith, bit-inside w i b, length-set w i 120) in
            let d = disobeying P y i h (get_or-set_same w i 120 0 (bit-inside w i b)) l in
            both_ways (all_pass p' y) false
            (λ a. d.2 (U.down d.0 (wide_form b (completes-form d.1)) (all-at p' y a d.0 d.1)).1) (λ a. absurd a)

    -- at a free place the plain test decides
    pub free-same : is_held (P i) ≡ false → widen_at p' w i ≡ widen_at p w i
    unfolding widen_at
    free-same h =
        ap (λ (x : Bool). cond x (set w i 120) w) (by_bit (all_pass p (set w i 120)) same)
      where
        same : Bit (get_or w i 0) → all_pass p' (set w i 120) ≡ all_pass p (set w i 120)
        same b =
            let y : List ℕ = set w i 120 in
            let a : (k : ℕ) → T (agrees_at false (P k) (get_or y k 0)) = λ k.
            elim (ℕ_discrete k i) [
              | yes e ↦ rw (ap (λ (j : ℕ). is_held (P j)) e ∙ h) tt
              | no n ↦ subst (λ (d : ℕ). T (agrees_at false (P k) d)) (sym (get_or-set_other w i k 120 0 n)) (all-exact t k)
            ] in
            both_ways (all_pass p' y) (all_pass p y)
            (λ x. all_from p y (λ u q. (U.down u (wide_form b (completes-form q)) (all-at p' y x u q)).0))
            (λ x. all_from p' y (λ u q. U.up u (wide_form b (completes-form q)) (all-at p y x u q) (exact-obeying P y a u q)))
