-- The completions of a text: by position, and all of them by number. Assumes nothing.
use mathlib.Core.Path.{◌≡◌, refl, sym, ap, ap₂, ◌∙◌, subst}
use mathlib.Core.Bool.{Bool, true, false, not, cond}
use mathlib.Core.List.{List, [], ◌∷◌}
use mathlib.Core.Logic.{inl, inr}
use Prim.Native.Nat.{ℕ, zero, suc, ◌+◌, ◌*◌, ◌/◌, ◌%◌, ◌^◌, ◌≤◌, ◌<◌}
use native.Mathlib.Nat.{pow-suc}
use native.Mathlib.Numerals.{one-add, add-one}
use native.Mathlib.Omega.{arith}
use lib.Pow.{pow_pos}
use borrow.Author.Tests.{eq-eqb, ne_eqb, eqb-true, eqb-false}
use lib.Dec.{T, eqb}
use lib.ListN.{length, get_or, take}
use Rattle.aiger.specs.Bits.{nonzero, odd, bit}
use Rattle.aiger.specs.Lists.{every_below}
use Rattle.completions.specs.Either.{is_either, eithers, completion, all_pass, none_passes}
use Rattle.aiger.proofs.Tests.{below_at, below_all}
use Rattle.words.proofs.Bits.{bit-zero, bit-suc}
use Rattle.completions.specs.Forms.{Bit, completed, Completed, Completes}

completion-empty : completion 0 [] ≡ []
unfolding completion
completion-empty = refl

pub completion-length : (v : ℕ) (w : List ℕ) → length (completion v w) ≡ length w
unfolding completion
completion-length v [] = refl
completion-length v (c ∷ w) = ap suc (completion-length (cond (is_either c) (v / 2) v) w)

-- byte i of a completion: an `x` has the bit of its number
pub completion-at : (v : ℕ) (w : List ℕ) (i : ℕ) → get_or (completion v w) i 0 ≡ completed (get_or w i 0) (bit v (eithers (take i w)))
unfolding completion
completion-at v [] i = refl
completion-at v (c ∷ w) zero = ap (completed c) (sym (bit-zero v))
completion-at v (c ∷ w) (suc i) = completion-at (cond (is_either c) (v / 2) v) w i ∙ ap (completed (get_or w i 0)) (go (is_either c))
  where
    go : (b : Bool) → bit (cond b (v / 2) v) (eithers (take i w)) ≡ bit v (cond b 1 0 + eithers (take i w))
    go true = sym (bit-suc v (eithers (take i w))) ∙ ap (bit v) (sym (one-add (eithers (take i w))))
    go false = ap (bit v) (omega arith)

completed-right : (c : ℕ) (b : Bool) → Completed c (completed c b)
completed-right c b =
    record {
      either = λ e. rw (eq-eqb c 120 e) (digit b);
      other = λ n. rw (ne_eqb c 120 n) refl;
    }
  where
    digit : (b : Bool) → Bit (cond b 49 48)
    digit true = inr refl
    digit false = inl refl

-- a completion is one by position
pub completes : (v : ℕ) (w : List ℕ) → Completes w (completion v w)
completes v w =
    record {
      size = completion-length v w;
      at = λ i. subst (Completed (get_or w i 0)) (sym (completion-at v w i)) (completed-right (get_or w i 0) (bit v (eithers (take i w))));
    }

-- the number of a completion
pub number : List ℕ → List ℕ → ℕ
number [] u = 0
number (c ∷ w) [] = 0
number (c ∷ w) (d ∷ u) = cond (is_either c) (cond (eqb d 49) 1 0 + 2 * number w u) (number w u)

digit-small : (b : Bool) → cond {A = ℕ} b 1 0 < 2
digit-small true = omega arith
digit-small false = omega arith

pub number-below : (w u : List ℕ) → number w u < 2 ^ eithers w
unfolding number
number-below [] u = omega arith
number-below (c ∷ w) [] = pow_pos (eithers (c ∷ w))
number-below (c ∷ w) (d ∷ u) = go (is_either c) (number-below w u)
  where
    go : (b : Bool) → number w u < 2 ^ eithers w → cond b (cond {A = ℕ} (eqb d 49) 1 0 + 2 * number w u) (number w u) < 2 ^ (cond {A = ℕ} b 1 0 + eithers w)
    go true h =
        let e : 2 ^ (1 + eithers w) ≡ 2 ^ eithers w * 2 = ap (λ (n : ℕ). 2 ^ n) (one-add (eithers w)) ∙ pow-suc 2 (eithers w) in
        omega (arith, digit-small (eqb d 49))
    go false h = let e : 2 ^ (0 + eithers w) ≡ 2 ^ eithers w = ap (λ (n : ℕ). 2 ^ n) (omega arith) in omega arith

-- an `x` with bit d in front
either_first : (c d n : ℕ) (w u : List ℕ) → is_either c ≡ true → Bit d → completion n w ≡ u
    → completion (cond (is_either c) (cond {A = ℕ} (eqb d 49) 1 0 + 2 * n) n) (c ∷ w) ≡ d ∷ u
unfolding completion
either_first c d n w u e (inl q) h =
    let r : (0 + 2 * n) % 2 ≡ 0 = omega arith in
    let s : (0 + 2 * n) / 2 ≡ n = omega arith in
    rw (e, q) (ap₂ (λ (x : ℕ) (y : List ℕ). x ∷ y) (ap (λ (k : ℕ). cond {A = ℕ} (nonzero k) 49 48) r) (ap (λ (k : ℕ). completion k w) s ∙ h))
either_first c d n w u e (inr q) h =
    let r : (1 + 2 * n) % 2 ≡ 1 = omega arith in
    let s : (1 + 2 * n) / 2 ≡ n = omega arith in
    rw (e, q) (ap₂ (λ (x : ℕ) (y : List ℕ). x ∷ y) (ap (λ (k : ℕ). cond {A = ℕ} (nonzero k) 49 48) r) (ap (λ (k : ℕ). completion k w) s ∙ h))

-- another byte in front
other-first : (c d n m : ℕ) (w u : List ℕ) → is_either c ≡ false → d ≡ c → completion n w ≡ u → completion (cond (is_either c) m n) (c ∷ w) ≡ d ∷ u
unfolding completion
other-first c d n m w u e q h = rw (e, q) (ap (λ (y : List ℕ). c ∷ y) h)

pub completes-rest : {c d : ℕ} {w u : List ℕ} → Completes (c ∷ w) (d ∷ u) → Completes w u
completes-rest h = record { size = omega (arith, h.size); at = λ i. h.at (suc i) }

pub number_is : (w u : List ℕ) → Completes w u → completion (number w u) w ≡ u
unfolding number
number_is [] [] h = completion-empty
number_is [] (d ∷ u) h = absurd (omega (arith, h.size))
number_is (c ∷ w) [] h = absurd (omega (arith, h.size))
number_is (c ∷ w) (d ∷ u) h = go (is_either c) refl (number_is w u (completes-rest h))
  where
    go : (b : Bool) → is_either c ≡ b → completion (number w u) w ≡ u
        → completion (cond (is_either c) (cond {A = ℕ} (eqb d 49) 1 0 + 2 * number w u) (number w u)) (c ∷ w) ≡ d ∷ u
    go true e k = either_first c d (number w u) w u e ((h.at 0).either (eqb-true c 120 e)) k
    go false e k =
        other-first c d (number w u) (cond {A = ℕ} (eqb d 49) 1 0 + 2 * number w u) w u e ((h.at 0).other (λ q. eqb-false c 120 e q)) k

-- ---- what holds of every completion

module _ (p : List ℕ → Bool) (w : List ℕ) where
  pub all-at : T (all_pass p w) → (u : List ℕ) → Completes w u → T (p u)
  unfolding all_pass
  all-at h u q =
      subst (λ (x : List ℕ). T (p x)) (number_is w u q) (below_at (2 ^ eithers w) (λ v. p (completion v w)) h (number w u) (number-below w u))

  pub all_from : ((u : List ℕ) → Completes w u → T (p u)) → T (all_pass p w)
  unfolding all_pass
  all_from h = below_all (2 ^ eithers w) (λ v. p (completion v w)) (λ v l. h (completion v w) (completes v w))

  pub none-at : T (none_passes p w) → (u : List ℕ) → Completes w u → T (not (p u))
  unfolding none_passes
  none-at h u q =
      subst (λ (x : List ℕ). T (not (p x))) (number_is w u q)
      (below_at (2 ^ eithers w) (λ v. not (p (completion v w))) h (number w u) (number-below w u))

  pub none_from : ((u : List ℕ) → Completes w u → T (not (p u))) → T (none_passes p w)
  unfolding none_passes
  none_from h = below_all (2 ^ eithers w) (λ v. not (p (completion v w))) (λ v l. h (completion v w) (completes v w))

-- ---- how many `x` stand before a position

eithers-next : (i : ℕ) (w : List ℕ) → eithers (take (suc i) w) ≡ eithers (take i w) + cond {A = ℕ} (is_either (get_or w i 0)) 1 0
eithers-next zero [] = refl
eithers-next zero (c ∷ w) = omega arith
eithers-next (suc i) [] = refl
eithers-next (suc i) (c ∷ w) = omega (arith, eithers-next i w)

pub eithers-more : (w : List ℕ) (i : ℕ) → eithers (take (i + 1) w) ≡ eithers (take i w) + cond {A = ℕ} (is_either (get_or w i 0)) 1 0
eithers-more w i = ap (λ (n : ℕ). eithers (take n w)) (add-one i) ∙ eithers-next i w

pub digit-few : (b : Bool) → cond {A = ℕ} b 1 0 ≤ 1
digit-few true = omega arith
digit-few false = omega arith

pub eithers-few : (i : ℕ) (w : List ℕ) → eithers (take i w) ≤ i
eithers-few zero w = omega arith
eithers-few (suc i) w = omega (arith, eithers-few i w, eithers-next i w, digit-few (is_either (get_or w i 0)))

pub eithers-length : (w : List ℕ) → eithers w ≤ length w
eithers-length [] = omega arith
eithers-length (c ∷ w) = omega (arith, eithers-length w, digit-few (is_either c))
