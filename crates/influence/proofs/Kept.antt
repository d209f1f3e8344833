-- The numbers below a bound that pass a test. Assumes nothing.
use mathlib.Core.Path.{◌≡◌, refl, sym, ap, ap₂, ◌∙◌, subst}
use mathlib.Core.Bool.{Bool, true, false, cond}
use mathlib.Core.List.{List, [], ◌∷◌, ◌++◌}
use mathlib.Core.Logic.{◌⊎◌, inl, inr}
use Prim.Native.Nat.{ℕ, zero, suc, ◌+◌, ◌≤◌, ◌<◌}
use native.Mathlib.Numerals.{add-one}
use native.Mathlib.Decide.{dec_lt, ℕ_discrete}
use native.Mathlib.Omega.{arith}
use lib.Dec.{T}
use lib.ListN.{length, get_or, set, take, drop, length-append, length-set, get_or-append}
use lib.Seq.{get_or_at, take-suc-set, drop-set-lt, drop-drop}
use Rattle.aiger.proofs.Tests.{T_true}
use Rattle.influence.specs.Cone.{kept_below}

module _ (p : ℕ → Bool) where
  -- what is known of a list of numbers below n
  pub record Chosen (n : ℕ) (ks : List ℕ) : Type 0 where
    pub few : length ks ≤ n
    pub below : (i : ℕ) → i < length ks → get_or ks i 0 < n
    pub rising : (i j : ℕ) → i < j → j < length ks → get_or ks i 0 < get_or ks j 0
    pub passes : (i : ℕ) → i < length ks → T (p (get_or ks i 0))
    pub there : (x : ℕ) → x < n → T (p x) → (i : ℕ) × (i < length ks) × (get_or ks i 0 ≡ x)

  chosen_more : (n : ℕ) (ks : List ℕ) → T (p n) → Chosen n ks → Chosen (suc n) (ks ++ (n ∷ []))
  chosen_more n ks t c =
      let out = ks ++ (n ∷ []) in
      let l : length out ≡ length ks + 1 = length-append ks (n ∷ []) in
      let old : (i : ℕ) → i < length ks → get_or out i 0 ≡ get_or ks i 0 = λ i h. get_or-append ks (n ∷ []) 0 i h in
      let new : get_or out (length ks) 0 ≡ n = get_or_at ks n [] 0 (length ks) refl in
      let at : (i : ℕ) → i < length out → (i < length ks → ⊥) → get_or out i 0 ≡ n =
      λ i h k. let e : length ks ≡ i = omega arith in ap (λ (x : ℕ). get_or out x 0) (sym e) ∙ new in
      record {
        few = omega (arith, c.few);
        below = λ i h. elim (dec_lt i (length ks)) [
          | yes k ↦ omega (arith, old i k, c.below i k)
          | no k ↦ omega (arith, at i h k)
        ];
        rising = λ i j h k. elim (dec_lt j (length ks)) [
          | yes q ↦ omega (arith, old i (omega arith), old j q, c.rising i j h q)
          | no q ↦ omega (arith, old i (omega arith), c.below i (omega arith), at j k q)
        ];
        passes = λ i h. elim (dec_lt i (length ks)) [
          | yes k ↦ subst (λ (x : ℕ). T (p x)) (sym (old i k)) (c.passes i k)
          | no k ↦ subst (λ (x : ℕ). T (p x)) (sym (at i h k)) t
        ];
        there = λ x h q. elim (ℕ_discrete x n) [
          | yes e ↦ (length ks, omega arith, new ∙ sym e)
          | no e ↦ let r = c.there x (omega arith) q in (r.0, omega (arith, r.1), old r.0 r.1 ∙ r.2)
        ];
      }

  chosen_less : (n : ℕ) (ks : List ℕ) → (T (p n) → ⊥) → Chosen n ks → Chosen (suc n) ks
  chosen_less n ks t c =
      record {
        few = omega (arith, c.few);
        below = λ i h. omega (arith, c.below i h);
        rising = c.rising;
        passes = c.passes;
        there = λ x h q. elim (ℕ_discrete x n) [
          | yes e ↦ absurd (t (subst (λ (y : ℕ). T (p y)) e q))
          | no e ↦ c.there x (omega arith) q
        ];
      }

  pub chosen : (n : ℕ) → Chosen n (kept_below p n)
  unfolding kept_below
  chosen zero =
      record {
        few = omega arith;
        below = λ i h. absurd (omega arith);
        rising = λ i j h k. absurd (omega arith);
        passes = λ i h. absurd (omega arith);
        there = λ x h q. absurd (omega arith);
      }
  chosen (suc n) = go (p n) refl (chosen n)
    where
      go : (q : Bool) → p n ≡ q → Chosen n (kept_below p n) → Chosen (suc n) (cond q (kept_below p n ++ (n ∷ [])) (kept_below p n))
      go true e c = chosen_more n (kept_below p n) (T_true e) c
      go false e c = chosen_less n (kept_below p n) (λ t. subst T e t) c

  -- one more number, by its test
  pub kept_in : (n : ℕ) → p n ≡ true → kept_below p n ++ (n ∷ []) ≡ kept_below p (suc n)
  unfolding kept_below
  kept_in n e = sym (ap (λ (q : Bool). cond q (kept_below p n ++ (n ∷ [])) (kept_below p n)) e)

  pub kept_out : (n : ℕ) → p n ≡ false → kept_below p n ≡ kept_below p (suc n)
  unfolding kept_below
  kept_out n e = sym (ap (λ (q : Bool). cond q (kept_below p n ++ (n ∷ [])) (kept_below p n)) e)

-- a list that is written one number after the other over `old`, each where its test passes: the first n words are those numbers, and the
-- others are as they were
pub record Listing (p : ℕ → Bool) (j : ℕ) (old : List ℕ) (n : ℕ) (ks : List ℕ) : Type 0 where
  pub few : n ≤ j
  pub size : length ks ≡ length old
  pub front : take n ks ≡ kept_below p j
  pub rest : drop n ks ≡ drop n old

pub list-step : (p : ℕ → Bool) (n j : ℕ) (old ks ks' : List ℕ) (n' : ℕ) (t : Bool) → t ≡ p j → n < length ks → Listing p j old n ks
    → ((t ≡ true) × (ks' ≡ set ks n j) × (n' ≡ n + 1)) ⊎ ((t ≡ false) × (ks' ≡ ks) × (n' ≡ n)) → Listing p (j + 1) old n' ks'
list-step p n j old ks ks' n' t e h k (inl (a, b, d)) =
    record {
      few = omega (arith, k.few);
      size = ap length b ∙ length-set ks n j ∙ k.size;
      front = ap₂ take (d ∙ add-one n) b ∙ take-suc-set ks n j h ∙ ap (λ (xs : List ℕ). xs ++ (j ∷ [])) k.front ∙ kept_in p j (sym e ∙ a)
          ∙ ap (kept_below p) (sym (add-one j));
      rest = ap₂ drop d b ∙ drop-set-lt (n + 1) ks n j (omega arith) ∙ sym (drop-drop 1 n ks) ∙ ap (drop 1) k.rest ∙ drop-drop 1 n old
          ∙ ap (λ (i : ℕ). drop i old) (sym d);
    }
list-step p n j old ks ks' n' t e h k (inr (a, b, d)) =
    record {
      few = omega (arith, k.few);
      size = ap length b ∙ k.size;
      front = ap₂ take d b ∙ k.front ∙ kept_out p j (sym e ∙ a) ∙ ap (kept_below p) (sym (add-one j));
      rest = ap₂ drop d b ∙ k.rest ∙ ap (λ (i : ℕ). drop i old) (sym d);
    }

pub list-start : (p : ℕ → Bool) (ks : List ℕ) → Listing p 0 ks 0 ks
unfolding kept_below
list-start p ks = record { few = omega arith; size = refl; front = refl; rest = refl }
