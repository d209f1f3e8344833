-- The cyclic order of sixteen numbers. Assumes nothing.
use mathlib.Core.Path.{◌≡◌, refl, sym, ap, ◌∙◌, subst}
use mathlib.Core.Bool.{Bool, true, false, cond}
use mathlib.Core.Option.{Option, none, some}
use Prim.Native.Nat.{ℕ, zero, suc, ◌+◌, ◌-◌, ◌%◌, ◌≤◌, ◌<◌}
use native.Mathlib.Decide.{dec_le}
use native.Mathlib.Omega.{arith}
use lib.Dec.{T, eqb, eqb→eq}
use Rattle.aiger.proofs.Tests.{T_true}
use Rattle.benches.specs.Bench.{Bench, after, first_of, waits, turn_of}

-- how many numbers come before i, from n on
abbrev pub gap : ℕ → ℕ → ℕ
gap i n = (i + 16 - n) % 16

some_same : {x y : ℕ} → ◌≡◌ {A = Option ℕ} (some x) (some y) → x ≡ y
some_same e = cc

not_some : {x : ℕ} → ◌≡◌ {A = Option ℕ} none (some x) → ⊥
not_some e = let z : ◌≡◌ {A = ℕ} 0 1 = cc in omega arith

-- one number further, i is one nearer
gap-next : (i n : ℕ) → i < 16 → n < 16 → (i ≡ n → ⊥) → gap i n ≡ gap i (after n) + 1
gap-next i n a b f = omega arith

gap_up : (i n : ℕ) → i < 16 → n ≤ i → gap i n + n ≡ i
gap_up i n a l = omega arith

gap-round : (i n : ℕ) → n < 16 → i < n → gap i n + n ≡ i + 16
gap-round i n a l = omega arith

-- from x on: after n, which comes before i, there are fewer numbers before i than from x on
pub gap-nearer : (i n x : ℕ) → i < 16 → n < 16 → x < 16 → (n ≡ i → ⊥) → gap n x ≤ gap i x → 1 + gap i (after n) ≤ gap i x
gap-nearer i n x a b c d h =
    let e = gap-next i n a b (λ q. d (sym q)) in
    elim (dec_le x i) [
      | yes p ↦
          let u = gap_up i x a p in
          elim (dec_le x n) [
            | yes q ↦ let v = gap_up n x b q in let w = gap_up i n a (omega arith) in omega arith
            | no q ↦ let v = gap-round n x c (omega arith) in absurd (omega arith)
          ]
      | no p ↦
          let u = gap-round i x c (omega arith) in
          elim (dec_le x n) [
            | yes q ↦ let v = gap_up n x b q in let w = gap-round i n b (omega arith) in omega arith
            | no q ↦ let v = gap-round n x c (omega arith) in let w = gap_up i n a (omega arith) in omega arith
          ]
    ]

-- the first that passes is below 16, passes, and no number before it passes
pub record First (p : ℕ → Bool) (n j : ℕ) : Type 0 where
  pub below : j < 16
  pub passes : T (p j)
  pub near : (i : ℕ) → i < 16 → T (p i) → gap j n ≤ gap i n

module _ (p : ℕ → Bool) where
  first-later : (n j : ℕ) → n < 16 → p n ≡ false → First p (after n) j → First p n j
  first-later n j l e f =
      record {
        below = f.below;
        passes = f.passes;
        near = λ i a t.
            let x : i ≡ n → ⊥ = λ q. subst T (ap p q ∙ e) t in
            let y : j ≡ n → ⊥ = λ q. subst T (ap p q ∙ e) f.passes in
            let h = f.near i a t in
            omega (arith, gap-next i n a l x, gap-next j n f.below l y);
      }

  pub first-of : (m n j : ℕ) → n < 16 → first_of p n m ≡ some j → First p n j
  unfolding first_of
  first-of zero n j l e = absurd (not_some e)
  first-of (suc m) n j l e = go (p n) refl e (λ k. first-of m (after n) j (omega arith) k)
    where
      go : (t : Bool) → p n ≡ t → cond t (some n) (first_of p (after n) m) ≡ some j
          → (first_of p (after n) m ≡ some j → First p (after n) j) → First p n j
      go true h e f =
          subst (First p n) (some_same e) (record { below = l; passes = T_true h; near = λ i a t. omega arith })
      go false h e f = first-later n j l h (f e)

  -- where a number passes that is near enough, there is a first one
  pub first-there : (m n i : ℕ) → n < 16 → i < 16 → T (p i) → gap i n < m → first_of p n m ≡ none → ⊥
  unfolding first_of
  first-there zero n i l a t g e = omega arith
  first-there (suc m) n i l a t g e = go (p n) refl e (λ h k. first-there m (after n) i (omega arith) a t h k)
    where
      go : (b : Bool) → p n ≡ b → cond b (some n) (first_of p (after n) m) ≡ none → (gap i (after n) < m → first_of p (after n) m ≡ none → ⊥) → ⊥
      go true h e f = not_some (sym e)
      go false h e f =
          let x : i ≡ n → ⊥ = λ q. subst T (ap p q ∙ h) t in
          f (omega (arith, gap-next i n a l x)) e

-- ---- whose turn it is

module _ (s : Bench) (l : s.next < 16) where
  -- a turn goes to the first search that waits
  pub turn-first : (n : ℕ) → turn_of s ≡ some n → First (waits s) s.next n
  unfolding turn_of
  turn-first n e = go (eqb s.allowance 0) e
    where
      go : (b : Bool) → cond b none (first_of (waits s) s.next 16) ≡ some n → First (waits s) s.next n
      go true e = absurd (not_some e)
      go false e = first-of (waits s) 16 s.next n l e

  -- Clause 12.17: while allowance remains and a search waits, no turn is idle
  pub idle-spent : (i : ℕ) → i < 16 → T (waits s i) → turn_of s ≡ none → s.allowance ≡ 0
  unfolding turn_of
  idle-spent i a t e = go (eqb s.allowance 0) refl e
    where
      go : (b : Bool) → eqb s.allowance 0 ≡ b → cond b none (first_of (waits s) s.next 16) ≡ none → s.allowance ≡ 0
      go true h e = eqb→eq s.allowance 0 (T_true h)
      go false h e = absurd (first-there (waits s) 16 s.next i l a t (omega arith) e)
