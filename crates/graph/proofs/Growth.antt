-- A graph with a gate more is built as graphs are. Assumes nothing.
use mathlib.Core.Path.{◌≡◌, refl, sym, ap, ◌∙◌}
use mathlib.Core.Bool.{Bool, true, false, not, ◌&&◌}
use mathlib.Core.List.{List, [], ◌∷◌, ◌++◌}
use Prim.Native.Nat.{ℕ, ◌+◌, ◌-◌, ◌*◌, ◌≤◌, ◌<◌}
use native.Mathlib.Decide.{ℕ_discrete, dec_le}
use native.Mathlib.Omega.{arith}
use borrow.Author.Tests.{lt-leb}
use lib.Dec.{leb}
use lib.ListN.{length}
use Rattle.aiger.specs.Circuit.{var}
use Rattle.aiger.specs.Frames.{free_bit}
use Rattle.aiger.specs.Fold.{repeated}
use Rattle.nodes.specs.Graph.{Pair, edge_value, nodes, pair_at, Equal, Opposite, deep, Built}
use Rattle.nodes.proofs.Laws.{edge-append, edge-new, edge-complement, length_more, pair_at-before, pair_at-new}
use Rattle.graph.specs.Stored.{Fresh, Twinless}

-- the graph without gates
pub built-empty : (n : ℕ) → Built n []
built-empty n =
    record {
      earlier = λ i h. absurd (omega arith);
      larger = λ i h. absurd (omega arith);
      nonconstant = λ i h. absurd (omega arith);
      apart = λ i j h. absurd (omega arith);
      shallow = λ i h. absurd (omega arith);
      unequal = λ l i h. absurd (omega arith);
      unopposite = λ l i h. absurd (omega arith);
    }

module _ (n : ℕ) (gs : List Pair) (p : Pair) (b : Built n gs)
    (earlier : var p.left < nodes n gs) (larger : var p.right < var p.left) (nonconstant : 2 ≤ p.right)
    (fresh : Fresh gs p.left p.right) (shallow : deep n gs p.left p.right ≡ false) (twinless : n ≤ 12 → Twinless n gs p.left p.right) where
  hs : List Pair
  hs = gs ++ (p ∷ [])

  -- gate i is one of gs, or the new one
  by-gate : (P : ℕ → Pair → Type 0) → ((i : ℕ) → i < length gs → P i (pair_at gs i)) → P (length gs) p → (i : ℕ) → i < length hs → P i (pair_at hs i)
  unfolding hs
  by-gate P old new i h = go (ℕ_discrete i (length gs))
    where
      go : Dec (i ≡ length gs) → P i (pair_at (gs ++ (p ∷ [])) i)
      go (yes e) = rw (e, pair_at-new gs p) new
      go (no k) = rw (pair_at-before gs p i (omega (arith, length_more gs p))) (old i (omega (arith, length_more gs p)))

  new-value : (x : ℕ) → edge_value n hs (free_bit n x) (2 * nodes n gs) ≡ (edge_value n gs (free_bit n x) p.left && edge_value n gs (free_bit n x) p.right)
  unfolding hs
  new-value x = edge-new n gs p (free_bit n x)

  old_value : (x e : ℕ) → var e < nodes n gs → edge_value n hs (free_bit n x) e ≡ edge_value n gs (free_bit n x) e
  unfolding hs
  old_value x e h = edge-append n gs (p ∷ []) (free_bit n x) e h

  not-not : (a c : Bool) → a ≡ not c → not a ≡ c
  not-not true false e = refl
  not-not true true e = sym e
  not-not false true e = refl
  not-not false false e = sym e

  unequal-new : n ≤ 12 → (k : ℕ) → k < nodes n gs → Equal n hs (2 * k) (2 * nodes n gs) → ⊥
  unequal-new l k h e = twinless l (2 * k) (omega arith) (λ x u. sym (old_value x (2 * k) (omega arith)) ∙ e x u ∙ new-value x)

  unopposite-new : n ≤ 12 → (k : ℕ) → k < nodes n gs → Opposite n hs (2 * k) (2 * nodes n gs) → ⊥
  unopposite-new l k h e =
      twinless l (2 * k + 1) (omega arith)
      (λ x u.
      edge-complement n gs (free_bit n x) k
      ∙ not-not (edge_value n gs (free_bit n x) (2 * k)) (edge_value n gs (free_bit n x) p.left && edge_value n gs (free_bit n x) p.right)
      (sym (old_value x (2 * k) (omega arith)) ∙ e x u ∙ ap not (new-value x)))

  unequal-old : n ≤ 12 → (i : ℕ) → i < length gs → (k : ℕ) → k < n + 1 + i → Equal n hs (2 * k) (2 * (n + 1 + i)) → ⊥
  unequal-old l i h k u e =
      b.unequal l i h k u
      (λ x w. sym (old_value x (2 * k) (omega arith)) ∙ e x w ∙ old_value x (2 * (n + 1 + i)) (omega arith))

  unopposite-old : n ≤ 12 → (i : ℕ) → i < length gs → (k : ℕ) → k < n + 1 + i → Opposite n hs (2 * k) (2 * (n + 1 + i)) → ⊥
  unopposite-old l i h k u e =
      b.unopposite l i h k u
      (λ x w. sym (old_value x (2 * k) (omega arith)) ∙ e x w ∙ ap not (old_value x (2 * (n + 1 + i)) (omega arith)))

  apart-new : (j : ℕ) → j < length gs → p.left ≡ (pair_at hs j).left → p.right ≡ (pair_at hs j).right → ⊥
  unfolding hs
  apart-new j h l r =
      let e = pair_at-before gs p j h in
      fresh j h (sym (l ∙ ap (λ (q : Pair). q.left) e)) (sym (r ∙ ap (λ (q : Pair). q.right) e))

  apart-old : (i j : ℕ) → i < length gs → j < i → (pair_at gs i).left ≡ (pair_at hs j).left → (pair_at gs i).right ≡ (pair_at hs j).right → ⊥
  unfolding hs
  apart-old i j h u l r =
      let e = pair_at-before gs p j (omega arith) in
      b.apart i j h u (l ∙ ap (λ (q : Pair). q.left) e) (r ∙ ap (λ (q : Pair). q.right) e)

  -- whether an operand is repeated one gate down does not depend on later gates
  deep-same : (left right : ℕ) → var left < nodes n gs → deep n hs left right ≡ deep n gs left right
  unfolding hs deep
  deep-same left right h = go (dec_le (n + 1) (var left))
    where
      k : ℕ
      k = var left - (n + 1)

      test : List Pair → Bool
      test xs = repeated (pair_at xs (var left - (n + 1))).left (pair_at xs (var left - (n + 1))).right left right

      go : Dec (n + 1 ≤ var left) → (leb (n + 1) (var left) && test (gs ++ (p ∷ []))) ≡ (leb (n + 1) (var left) && test gs)
      go (yes l) =
          ap (λ (q : Pair). leb (n + 1) (var left) && repeated q.left q.right left right) (pair_at-before gs p (var left - (n + 1)) (omega arith))
      go (no l) =
          let z = lt-leb (n + 1) (var left) (omega arith) in
          ap (λ (b : Bool). b && test (gs ++ (p ∷ []))) z ∙ sym (ap (λ (b : Bool). b && test gs) z)

  pub built-more : Built n (gs ++ (p ∷ []))
  unfolding hs
  built-more =
      record {
        earlier = by-gate (λ i q. var q.left < n + 1 + i) b.earlier earlier;
        larger = by-gate (λ i q. var q.right < var q.left) b.larger larger;
        nonconstant = by-gate (λ i q. 2 ≤ q.right) b.nonconstant nonconstant;
        apart = λ i j h.
            by-gate (λ i q. j < i → q.left ≡ (pair_at hs j).left → q.right ≡ (pair_at hs j).right → ⊥)
            (λ i h. apart-old i j h) (apart-new j) i h;
        shallow =
            by-gate (λ i q. deep n hs q.left q.right ≡ false)
            (λ i h. deep-same (pair_at gs i).left (pair_at gs i).right (omega (arith, b.earlier i h)) ∙ b.shallow i h)
            (deep-same p.left p.right earlier ∙ shallow);
        unequal = λ l.
            by-gate (λ i q. (k : ℕ) → k < n + 1 + i → Equal n hs (2 * k) (2 * (n + 1 + i)) → ⊥) (unequal-old l) (unequal-new l);
        unopposite = λ l.
            by-gate (λ i q. (k : ℕ) → k < n + 1 + i → Opposite n hs (2 * k) (2 * (n + 1 + i)) → ⊥) (unopposite-old l) (unopposite-new l);
      }
