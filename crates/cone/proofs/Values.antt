-- The values in the circuit that a cone makes are those in the graph. Assumes nothing.
use mathlib.Core.Path.{◌≡◌, refl, sym, ap, ap₂, ◌∙◌, subst}
use mathlib.Core.Bool.{Bool, false, not, cond, ◌&&◌}
use mathlib.Core.List.{List, [], map}
use mathlib.Core.Logic.{inl, inr}
use Prim.Native.Nat.{ℕ, zero, suc, ◌+◌, ◌-◌, ◌*◌, ◌/◌, ◌≤◌, ◌<◌}
use native.Mathlib.Nat.{not-suc-le-zero}
use native.Mathlib.Decide.{ℕ_discrete}
use native.Mathlib.Omega.{arith}
use lib.Dec.{T}
use lib.ListN.{length, get_or}
use Rattle.aiger.specs.Lists.{upto}
use Rattle.aiger.specs.Bits.{nonzero, odd}
use Rattle.aiger.specs.Circuit.{Gate, var}
use Rattle.aiger.specs.Frames.{value, frame, state, value_at, free_bit}
use Rattle.aiger.specs.Fold.{value_on}
use Rattle.meaning.proofs.Lists.{length-map-upto, get_d-map-upto}
use Rattle.meaning.proofs.Defined.{input_at}
use Rattle.meaning.proofs.Values.{Valuation, frame-valuation}
use Rattle.meaning.proofs.Shape.{shape-right, shape-acyclic}
use Rattle.nodes.specs.Graph.{Pair, pair_at, nodes, node_values, edge_in, edge_value, Built}
use Rattle.nodes.proofs.Laws.{edge-node, edge-gate, node-constant, node-free}
use Rattle.cone.specs.Cone.{in_cone, kept_before, number, Numbered, renumbered, kept_gate, folded}
use Rattle.cone.proofs.Cone.{operand-earlier, before-lt, number-leaf}
use Rattle.cone.proofs.Gates.{length-folded, renumbered-var, renumbered-sign, from-gate, operand-numbered}
use Rattle.cone.proofs.Circuit.{folded-shape}

module _ (n : ℕ) (gs : List Pair) (root : ℕ) where
  input-lit : (j : ℕ) → j < n → input_at (folded n gs root) j ≡ 2 * (j + 1)
  unfolding folded
  input-lit j h = get_d-map-upto (λ i. 2 * (i + 1)) n j 0 h

  length-inputs : length (folded n gs root).inputs ≡ n
  unfolding folded
  length-inputs = length-map-upto (λ i. 2 * (i + 1)) n

  -- a renumbered edge has the value of the edge where the number of its node has the value of the node
  renumbered-value : (w : ℕ → Bool) (vs : List Bool) (e : ℕ) → w (number n gs root (var e)) ≡ get_or vs (var e) false → value w (renumbered n gs root e) ≡ edge_in vs e
  renumbered-value w vs e h =
      ap₂ (λ (s v : ℕ). cond (nonzero s) (not (w v)) (w v)) (renumbered-sign n gs root e) (renumbered-var n gs root e)
      ∙ ap (λ (b : Bool). cond (odd e) (not b) b) h

  module _ (built : Built n gs) (inside : var root < nodes n gs) (f : ℕ → Bool) where
    abbrev row : List Bool
    row = map f (upto n)

    abbrev w : ℕ → Bool
    w = frame (folded n gs root) [] row

    abbrev vs : List Bool
    vs = node_values n gs f

    valuation : Valuation (folded n gs root) row [] w
    valuation =
        let s = folded-shape n gs root built inside in
        frame-valuation (folded n gs root) (shape-right s) (shape-acyclic s) [] row

    leaf-value : (k : ℕ) → k ≤ n → w (number n gs root k) ≡ get_or vs k false
    leaf-value zero h = ap w (number-leaf n gs root 0 h) ∙ valuation.constant ∙ sym (node-constant n gs f)
    leaf-value (suc j) h =
        let e : suc j ≡ var (input_at (folded n gs root) j) = omega (arith, input-lit j (omega arith)) in
        let q : j + 1 ≡ suc j = omega arith in
        ap w (number-leaf n gs root (suc j) h ∙ e) ∙ valuation.input j (omega (arith, length-inputs)) ∙ get_d-map-upto f n j false (omega arith)
        ∙ sym (node-free n gs f j (omega arith)) ∙ ap (λ (x : ℕ). get_or vs x false) q

    gate-value : (i : ℕ) → i < length gs → T (in_cone n gs root (n + 1 + i))
        → ((k : ℕ) → k < n + 1 + i → Numbered n gs root k → w (number n gs root k) ≡ get_or vs k false)
        → w (number n gs root (n + 1 + i)) ≡ get_or vs (n + 1 + i) false
    unfolding kept_gate
    gate-value i h t r =
        let g = kept_gate n gs root i in
        let p = kept_before n gs root i in
        let a = from-gate n gs root i h t in
        let l = (pair_at gs i).left in
        let u = (pair_at gs i).right in
        let le = operand-earlier n gs root built i (var l) h (inl refl) in
        let ue = operand-earlier n gs root built i (var u) h (inr refl) in
        let v : number n gs root (n + 1 + i) ≡ var g.lit = omega arith in
        let q : w (var g.lit) ≡ (value w g.left && value w g.right) =
        subst (λ (x : Gate). w (var x.lit) ≡ (value w x.left && value w x.right)) a.gate
        (valuation.gate p (omega (arith, length-folded n gs root, before-lt n gs root i (length gs) h t))) in
        ap w v ∙ q
        ∙ ap₂ (λ (x y : Bool). x && y)
        (renumbered-value w vs l (r (var l) le (operand-numbered n gs root built i (var l) h t (inl refl))))
        (renumbered-value w vs u (r (var u) ue (operand-numbered n gs root built i (var u) h t (inr refl))))
        ∙ sym (edge-gate n gs f i h (pair_at gs i) refl le ue) ∙ edge-node vs (n + 1 + i)

    -- the number of a node has the node's value
    values-below : (b k : ℕ) → k < b → k < nodes n gs → Numbered n gs root k → w (number n gs root k) ≡ get_or vs k false
    values-below zero k h l a = absurd (not-suc-le-zero h)
    values-below (suc b) k h l (inl a) = leaf-value k a
    values-below (suc b) k h l (inr a) =
        elim (ℕ_discrete (k - n) 0) [
          | yes z ↦ leaf-value k (omega arith)
          | no z ↦
              (let e : k ≡ n + 1 + (k - (n + 1)) = omega arith in
              subst (λ (x : ℕ). w (number n gs root x) ≡ get_or vs x false) (sym e)
              (gate-value (k - (n + 1)) (omega arith) (subst (λ (x : ℕ). T (in_cone n gs root x)) e a)
              (λ j u c. values-below b j (omega arith) (omega arith) c)))
        ]

    edge-frame : (e : ℕ) → var e < nodes n gs → Numbered n gs root (var e) → value w (renumbered n gs root e) ≡ edge_in vs e
    edge-frame e h a = renumbered-value w vs e (values-below (suc (var e)) (var e) (omega arith) h a)

  module _ (built : Built n gs) (inside : var root < nodes n gs) where
    -- a renumbered edge has the value of the edge
    pub edge_on : (x e : ℕ) → var e < nodes n gs → Numbered n gs root (var e) → value_on (folded n gs root) n x (renumbered n gs root e) ≡ edge_value n gs (free_bit n x) e
    unfolding value_on value_at state
    edge_on x e h a = edge-frame built inside (free_bit n x) e h a

    -- so has the number of a node
    pub node-on : (x k : ℕ) → k < nodes n gs → Numbered n gs root k → value_on (folded n gs root) n x (2 * number n gs root k) ≡ edge_value n gs (free_bit n x) (2 * k)
    unfolding renumbered
    node-on x k h a =
        let q : 2 * k / 2 ≡ k = omega arith in
        let v : number n gs root (2 * k / 2) ≡ number n gs root k = ap (number n gs root) q in
        let e : 2 * number n gs root k ≡ renumbered n gs root (2 * k) = omega arith in
        ap (value_on (folded n gs root) n x) e ∙ edge_on x (2 * k) (omega arith) (subst (Numbered n gs root) (sym q) a)
