-- A node that stands in the heap and has no need to rise: what would be stored for it is there. Assumes nothing.
use mathlib.Core.Path.{◌≡◌, refl, ap, sym, ◌∙◌}
use mathlib.Core.Bool.{Bool, true, false, cond, false≢true}
use mathlib.Core.List.{List, [], ◌∷◌}
use Prim.Native.Nat.{ℕ, zero, suc, ◌+◌, ◌-◌, ◌*◌, ◌/◌, ◌%◌, ◌≤◌, ◌<◌}
use native.Mathlib.Omega.{arith}
use borrow.Author.Tests.{eqb-true, leb-false}
use lib.Dec.{eqb, leb}
use lib.ListN.{get_or, set}
use Rattle.memory.specs.Record.{place, field, stored}
use Rattle.heap.specs.Heap.{node_at, place_of, with_node, seated, is_seated, is_above, upped, stays}
use Rattle.heap.proofs.Turns.{upped-stop}

set_own : (w : List ℕ) (i : ℕ) → set w i (get_or w i 0) ≡ w
set_own [] zero = refl
set_own [] (suc i) = refl
set_own (x ∷ w) zero = refl
set_own (x ∷ w) (suc i) = ap (λ (v : List ℕ). x ∷ v) (set_own w i)

stored-own : (w : List ℕ) (nodes v f : ℕ) → stored w nodes v f (field w nodes v f) ≡ w
unfolding stored field
stored-own w nodes v f = go (leb nodes v)
  where
    go : (b : Bool) → cond b w (set w (place v f) (cond b 0 (get_or w (place v f) 0))) ≡ w
    go true = refl
    go false = set_own w (place v f)

module _ (w : List ℕ) (nodes v : ℕ) where
  seated-own : (i : ℕ) → i < 65536 → place_of w nodes v ≡ i → node_at w nodes i ≡ v → seated w nodes i v ≡ w
  unfolding seated place_of node_at
  seated-own i few p n =
      let x = field w nodes i 10 in
      let y = field w nodes v 10 in
      let at : x - x % 65536 + v % 65536 ≡ x = omega (arith, n) in
      let of : y % 65536 + 65536 * (i % 65536) ≡ y = omega (arith, p) in
      let first : with_node w nodes i v ≡ w = ap (stored w nodes i 10) at ∙ stored-own w nodes i 10 in
      ap (λ (u : List ℕ). stored u nodes v 10 (field u nodes v 10 % 65536 + 65536 * (i % 65536))) first
      ∙ ap (stored w nodes v 10) of ∙ stored-own w nodes v 10

  at_place : (size : ℕ) → is_seated w nodes size v ≡ true → node_at w nodes (place_of w nodes v) ≡ v
  unfolding is_seated
  at_place size e = go (leb size (place_of w nodes v)) e
    where
      go : (b : Bool) → cond b false (eqb (node_at w nodes (place_of w nodes v)) v) ≡ true → node_at w nodes (place_of w nodes v) ≡ v
      go true e = absurd (false≢true e)
      go false e = eqb-true (node_at w nodes (place_of w nodes v)) v e

  pub upped-stays : (size : ℕ) → is_seated w nodes size v ≡ true → stays w nodes (place_of w nodes v) v ≡ true
      → upped w nodes v (place_of w nodes v) 32 ≡ w
  unfolding stays
  upped-stays size e h = go (place_of w nodes v) refl (leb 65536 (place_of w nodes v)) refl (is_above w nodes (place_of w nodes v) v) refl h
    where
      go : (i : ℕ) → place_of w nodes v ≡ i → (b : Bool) → leb 65536 i ≡ b → (k : Bool) → is_above w nodes i v ≡ k
          → cond b false (cond k false true) ≡ true → upped w nodes v i 32 ≡ w
      go i a true p k q h = absurd (false≢true h)
      go i a false p true q h = absurd (false≢true h)
      go i a false p false q h =
          upped-stop w nodes v i 32 q ∙ seated-own i (leb-false 65536 i p) a (ap (node_at w nodes) (sym a) ∙ at_place size e)
