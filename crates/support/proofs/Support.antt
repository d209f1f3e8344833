-- An edge depends on its support alone. Assumes nothing.
use mathlib.Core.Path.{◌≡◌, refl, sym, ap, ap₂, ◌∙◌, subst}
use mathlib.Core.Bool.{Bool, true, false, cond, ◌&&◌}
use mathlib.Core.List.{List}
use mathlib.Core.Logic.{inl, inr}
use Prim.Native.Nat.{ℕ, zero, suc, ◌+◌, ◌-◌, ◌*◌, ◌/◌, ◌%◌, ◌^◌, ◌≤◌, ◌<◌, min}
use native.Mathlib.Nat.{not-suc-le-zero}
use native.Mathlib.Decide.{ℕ_discrete, dec_lt}
use native.Mathlib.Omega.{arith}
use lib.Dec.{T}
use lib.ListN.{length, get_or}
use Rattle.aiger.specs.Bits.{bit}
use Rattle.aiger.specs.Circuit.{var}
use Rattle.aiger.specs.Frames.{free_bit}
use Rattle.nodes.specs.Graph.{Pair, pair_at, nodes, node_values, edge_value, Built}
use Rattle.nodes.proofs.Laws.{edge-eq, edge-node, edge-gate, node-constant, node-free}
use Rattle.cone.specs.Cone.{in_cone}
use Rattle.cone.proofs.Cone.{root_kept, operand-kept}
use Rattle.support.specs.Counting.{spread}
use Rattle.support.specs.Support.{support, node_value}
use Rattle.support.proofs.Counting.{gather, gather-bit}

-- gate i is the conjunction of its operands
pub gate-value : (n : ℕ) (gs : List Pair) → Built n gs → (f : ℕ → Bool) (i : ℕ) → i < length gs
    → node_value n gs f (n + 1 + i) ≡ (edge_value n gs f (pair_at gs i).left && edge_value n gs f (pair_at gs i).right)
gate-value n gs built f i h =
    sym (edge-node (node_values n gs f) (n + 1 + i))
    ∙ edge-gate n gs f i h (pair_at gs i) refl (built.earlier i h) (omega (arith, built.earlier i h, built.larger i h))

module _ (n : ℕ) (gs : List Pair) (root : ℕ) (built : Built n gs) (f h : ℕ → Bool) where
  -- nodes below low, and gates before gate `first`, have the same values, where the free bits of nodes below low have, and no gate of the cone
  -- before `first` has a free bit from low on as an operand
  pub record Apart (low first : ℕ) : Type 0 where
    pub leaf : low ≤ n + 1
    pub bits : (j : ℕ) → j < n → j + 1 < low → T (in_cone n gs root (j + 1)) → f j ≡ h j
    pub left : (i : ℕ) → i < length gs → n + 1 + i < first → T (in_cone n gs root (n + 1 + i)) → low ≤ var (pair_at gs i).left → n < var (pair_at gs i).left
    pub right : (i : ℕ) → i < length gs → n + 1 + i < first → T (in_cone n gs root (n + 1 + i)) → low ≤ var (pair_at gs i).right → n < var (pair_at gs i).right

  module _ {low first : ℕ} (a : Apart low first) where
    same-node : (m k : ℕ) → k < m → k < nodes n gs → k < first → (low ≤ k → n < k) → T (in_cone n gs root k) → node_value n gs f k ≡ node_value n gs h k
    same-node zero k l u w z t = absurd (not-suc-le-zero l)
    same-node (suc m) zero l u w z t = node-constant n gs f ∙ sym (node-constant n gs h)
    same-node (suc m) (suc j) l u w z t =
        elim (dec_lt j n) [
          | yes v ↦
              (let e : suc j ≡ j + 1 = omega arith in
              let q : suc j < low = elim (dec_lt (suc j) low) [ yes x ↦ x | no x ↦ absurd (omega (arith, z (omega arith))) ] in
              ap (node_value n gs f) e ∙ node-free n gs f j v ∙ a.bits j v (omega arith) (subst (λ (x : ℕ). T (in_cone n gs root x)) e t) ∙ sym (node-free n gs h j v) ∙ ap (node_value n gs h) (sym e))
          | no v ↦
              (let i = j - n in
              let e : suc j ≡ n + 1 + i = omega arith in
              let k : i < length gs = omega arith in
              let kept = subst (λ (x : ℕ). T (in_cone n gs root x)) e t in
              let p = pair_at gs i in
              let lo = built.earlier i k in
              let ro = built.larger i k in
              ap (node_value n gs f) e ∙ gate-value n gs built f i k
              ∙ ap₂ (λ (x y : Bool). x && y)
              (edge-eq (node_values n gs f) (node_values n gs h) p.left
              (same-node m (var p.left) (omega arith) (omega arith) (omega arith) (a.left i k (omega arith) kept) (operand-kept n gs root built i (var p.left) k kept (inl refl))))
              (edge-eq (node_values n gs f) (node_values n gs h) p.right
              (same-node m (var p.right) (omega arith) (omega arith) (omega arith) (a.right i k (omega arith) kept) (operand-kept n gs root built i (var p.right) k kept (inr refl))))
              ∙ sym (gate-value n gs built h i k) ∙ ap (node_value n gs h) (sym e))
        ]

    pub same-before : (k : ℕ) → k < nodes n gs → k < first → (low ≤ k → n < k) → T (in_cone n gs root k) → node_value n gs f k ≡ node_value n gs h k
    same-before k = same-node (suc k) k (omega arith)

  -- the root has the same value, where the free bits that lead to it have
  pub same-root : ((j : ℕ) → j < n → T (in_cone n gs root (j + 1)) → f j ≡ h j) → var root < nodes n gs → edge_value n gs f root ≡ edge_value n gs h root
  same-root e u =
      let a : Apart (n + 1) (nodes n gs) =
      record {
        leaf = omega arith;
        bits = λ j v l t. e j v t;
        left = λ i k l t x. omega arith;
        right = λ i k l t x. omega arith;
      } in
      edge-eq (node_values n gs f) (node_values n gs h) root
      (same-before a (var root) u u (λ x. omega arith) (root_kept n gs root))

-- the root is seen through the support alone
pub root-sees : (n : ℕ) (gs : List Pair) (root : ℕ) → Built n gs → var root < nodes n gs → (x : ℕ)
    → edge_value n gs (free_bit n (spread (support n gs root) n (gather (support n gs root) n x))) root ≡ edge_value n gs (free_bit n x) root
root-sees n gs root built u x =
    let s = support n gs root in
    same-root n gs root built (free_bit n (spread s n (gather s n x))) (free_bit n x)
    (λ j h t.
    let e : j + 1 ≡ n - (n - (j + 1)) = omega arith in
    gather-bit s n x (n - (j + 1)) (omega arith) (subst (λ (k : ℕ). T (in_cone n gs root k)) e t)) u
