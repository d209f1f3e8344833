-- Where an input stands among those that matter. Assumes nothing.
use mathlib.Core.Path.{◌≡◌, refl, sym, ap, ◌∙◌}
use mathlib.Core.Bool.{Bool, true, false, cond}
use mathlib.Core.List.{List, [], ◌∷◌}
use Prim.Native.Nat.{ℕ, zero, suc, ◌+◌, ◌≤◌, ◌<◌}
use native.Mathlib.Decide.{ℕ_discrete}
use native.Mathlib.Omega.{arith}
use borrow.Author.Tests.{eq-eqb, ne_eqb}
use lib.Dec.{eqb}
use lib.ListN.{length, get_or}
use Rattle.transitions.specs.Transitions.{rank_in}

-- no word before k is i
abbrev pub NotBefore : List ℕ → ℕ → ℕ → Type 0
NotBefore xs i k = (u : ℕ) → u < k → get_or xs u 0 ≡ i → ⊥

pub not_more : (xs : List ℕ) (i k : ℕ) → NotBefore xs i k → (get_or xs k 0 ≡ i → ⊥) → NotBefore xs i (k + 1)
not_more xs i k h d u l e = elim (ℕ_discrete u k) [ yes z ↦ d (ap (λ (j : ℕ). get_or xs j 0) (sym z) ∙ e) | no z ↦ h u (omega arith) e ]

rank-suc : (x : ℕ) (xs : List ℕ) (i : ℕ) → (x ≡ i → ⊥) → rank_in (x ∷ xs) i ≡ suc (rank_in xs i)
unfolding rank_in
rank-suc x xs i d = ap (λ (b : Bool). cond b 0 (suc (rank_in xs i))) (ne_eqb x i d)

pub rank-here : (xs : List ℕ) (i k : ℕ) → k < length xs → NotBefore xs i k → get_or xs k 0 ≡ i → k ≡ rank_in xs i
unfolding rank_in
rank-here [] i k l h e = absurd (omega arith)
rank-here (x ∷ xs) i zero l h e = sym (ap (λ (b : Bool). cond b 0 (suc (rank_in xs i))) (eq-eqb x i e))
rank-here (x ∷ xs) i (suc k) l h e =
    ap suc (rank-here xs i k (omega arith) (λ u d. h (suc u) (omega arith)) e) ∙ sym (rank-suc x xs i (h 0 (omega arith)))

pub rank-none : (xs : List ℕ) (i k : ℕ) → k ≤ length xs → length xs ≤ k → NotBefore xs i k → k ≡ rank_in xs i
unfolding rank_in
rank-none [] i k l m h = omega arith
rank-none (x ∷ xs) i zero l m h = absurd (omega arith)
rank-none (x ∷ xs) i (suc k) l m h =
    ap suc (rank-none xs i k (omega arith) (omega arith) (λ u d. h (suc u) (omega arith))) ∙ sym (rank-suc x xs i (h 0 (omega arith)))
