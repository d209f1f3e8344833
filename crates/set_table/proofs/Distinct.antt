-- A word is there once if it is where it is found first. Assumes nothing.
use mathlib.Core.Path.{◌≡◌, refl, sym, ap, ◌∙◌, subst}
use mathlib.Core.Bool.{Bool, true, false, not, cond}
use mathlib.Core.List.{List, [], ◌∷◌}
use Prim.Native.Nat.{ℕ, zero, suc, ◌+◌, ◌≤◌, ◌<◌}
use native.Mathlib.Numerals.{add-one}
use native.Mathlib.Omega.{arith}
use borrow.Author.Tests.{eq-eqb, ne_eqb}
use lib.Dec.{T, eqb}
use lib.ListN.{length, get_or}
use Rattle.aiger.specs.Lists.{every_below}
use Rattle.aiger.proofs.Tests.{and, true-T, T_true, false_of, below_at, below_all}
use Rattle.transitions.specs.Transitions.{rank_in}
use Rattle.set_stage.proofs.Starts.{rank-found}
use Rattle.set_attempt.specs.Attempt.{is_new, is_distinct}

-- no word is found after its own place
rank-least : (xs : List ℕ) (u : ℕ) → u < length xs → rank_in xs (get_or xs u 0) ≤ u
unfolding rank_in
rank-least [] u l = absurd (omega arith)
rank-least (x ∷ xs) zero l = subst (λ (b : Bool). cond b 0 (suc (rank_in xs x)) ≤ 0) (sym (eq-eqb x x refl)) (omega arith)
rank-least (x ∷ xs) (suc u) l = go (eqb x (get_or xs u 0)) (rank-least xs u (omega arith))
  where
    go : (b : Bool) → rank_in xs (get_or xs u 0) ≤ u → cond b 0 (suc (rank_in xs (get_or xs u 0))) ≤ suc u
    go true h = omega arith
    go false h = omega arith

-- no word before v is there twice
abbrev pub NewBelow : List ℕ → ℕ → Type 0
NewBelow xs v = T (every_below v (is_new xs))

module _ (xs : List ℕ) (v : ℕ) (l : v < length xs) (r : ℕ) (e : r ≡ rank_in xs (get_or xs v 0)) where
  pub new-more : v ≤ r → NewBelow xs v → NewBelow xs (v + 1)
  new-more h t =
      subst (NewBelow xs) (sym (add-one v))
      (and (every_below v (is_new xs)) (is_new xs v) t
      (below_all v (λ u. not (eqb (get_or xs u 0) (get_or xs v 0)))
      (λ u k.
      T_true
      (ap not
      (ne_eqb (get_or xs u 0) (get_or xs v 0)
      (λ q. absurd (omega (arith, rank-least xs u (omega arith), ap (rank_in xs) q))))))))

  pub new-not : r < v → false ≡ is_distinct xs
  unfolding is_distinct
  new-not h =
      let same : get_or xs r 0 ≡ get_or xs v 0 = ap (λ (k : ℕ). get_or xs k 0) e ∙ rank-found xs (get_or xs v 0) (omega arith) in
      sym
      (false_of (every_below (length xs) (is_new xs))
      (λ t.
      subst T (ap not (eq-eqb (get_or xs r 0) (get_or xs v 0) same))
      (below_at v (λ u. not (eqb (get_or xs u 0) (get_or xs v 0))) (below_at (length xs) (is_new xs) t v l) r h)))

pub new-all : (xs : List ℕ) (v : ℕ) → v ≡ length xs → NewBelow xs v → true ≡ is_distinct xs
unfolding is_distinct
new-all xs v e t = sym (true-T (every_below (length xs) (is_new xs)) (subst (NewBelow xs) e t))
