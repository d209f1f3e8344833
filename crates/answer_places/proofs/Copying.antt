-- Laws of a row that is put in the places that are there. Assumes nothing.
use mathlib.Core.Path.{◌≡◌, refl, ap, ◌∙◌, sym}
use mathlib.Core.List.{List, [], ◌∷◌, ◌++◌}
use Prim.Native.Nat.{ℕ, zero, suc, ◌+◌, ◌≤◌, ◌<◌}
use native.Mathlib.Numerals.{add-one}
use native.Mathlib.Omega.{arith}
use lib.ListN.{length, get_or, take, drop, set}
use Rattle.answer_places.specs.Places.{overlaid}

-- the first i places are written
abbrev pub written : List ℕ → List ℕ → ℕ → List ℕ
written row answer i = take i row ++ drop i answer

one : (row answer : List ℕ) (i : ℕ) → i < length row → i < length answer → set (written row answer i) i (get_or row i 0) ≡ written row answer (suc i)
one [] answer i a b = absurd (omega arith)
one (x ∷ row) [] i a b = absurd (omega arith)
one (x ∷ row) (y ∷ answer) zero a b = refl
one (x ∷ row) (y ∷ answer) (suc i) a b = ap (λ (l : List ℕ). x ∷ l) (one row answer i (omega arith) (omega arith))

-- one place more
pub more : (row answer : List ℕ) {now : List ℕ} (i : ℕ) → now ≡ written row answer i → i < length row → i < length answer
    → set now i (get_or row i 0) ≡ written row answer (i + 1)
more row answer i e a b =
    ap (λ (l : List ℕ). set l i (get_or row i 0)) e ∙ one row answer i a b ∙ ap (written row answer) (sym (add-one i))

-- where row or answer ends, all is written
pub whole : (row answer : List ℕ) (i : ℕ) → i ≤ length row → i ≤ length answer → (i < length row → i < length answer → ⊥)
    → written row answer i ≡ overlaid row answer
whole [] answer zero a b f = refl
whole [] answer (suc i) a b f = absurd (omega arith)
whole (x ∷ row) [] zero a b f = refl
whole (x ∷ row) [] (suc i) a b f = absurd (omega arith)
whole (x ∷ row) (y ∷ answer) zero a b f = absurd (f (omega arith) (omega arith))
whole (x ∷ row) (y ∷ answer) (suc i) a b f =
    ap (λ (l : List ℕ). x ∷ l) (whole row answer i (omega arith) (omega arith) (λ p q. f (omega arith) (omega arith)))
