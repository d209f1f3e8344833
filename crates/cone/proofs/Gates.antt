-- The gates of the circuit that a cone makes, by position. Assumes nothing.
use mathlib.Core.Path.{◌≡◌, refl, sym, ap, ◌∙◌, subst}
use mathlib.Core.Bool.{Bool, true, false, cond}
use mathlib.Core.List.{List, [], ◌∷◌, ◌++◌}
use mathlib.Core.Logic.{◌⊎◌, inl, inr, ⊎_elim}
use Prim.Native.Nat.{ℕ, zero, suc, ◌+◌, ◌*◌, ◌%◌, ◌≤◌, ◌<◌}
use native.Mathlib.Nat.{eq-or-lt_of_le, not-suc-le-zero, le_of_suc-le-suc}
use native.Mathlib.Omega.{arith}
use lib.Dec.{T}
use lib.ListN.{length, get_or, length-append, get_or-append}
use lib.Seq.{get_or_at}
use Rattle.aiger.specs.Circuit.{Gate, var}
use Rattle.aiger.proofs.Tests.{true-T}
use Rattle.meaning.proofs.Defined.{no_gate, gate_at}
use Rattle.nodes.specs.Graph.{Pair, pair_at, nodes, Built}
use Rattle.cone.specs.Cone.{in_cone, kept_before, number, Numbered, renumbered, kept_gate, kept_gates, folded}
use Rattle.cone.proofs.Cone.{Operand, root_kept, operand-kept, before-le, before-lt, position, number-gate, number_lt, number_same, number_bound}

module _ (n : ℕ) (gs : List Pair) (root : ℕ) where
  pub length-gates : (j : ℕ) → length (kept_gates n gs root j) ≡ kept_before n gs root j
  unfolding kept_gates kept_before
  length-gates zero = refl
  length-gates (suc j) = go (in_cone n gs root (n + 1 + j)) (length-gates j)
    where
      go : (b : Bool) → length (kept_gates n gs root j) ≡ kept_before n gs root j
          → length (kept_gates n gs root j ++ cond b (kept_gate n gs root j ∷ []) []) ≡ kept_before n gs root j + cond b 1 0
      go true e = length-append (kept_gates n gs root j) (kept_gate n gs root j ∷ []) ∙ omega arith
      go false e = length-append (kept_gates n gs root j) [] ∙ omega arith

  gates-new : (j : ℕ) → T (in_cone n gs root (n + 1 + j)) → kept_gates n gs root (suc j) ≡ kept_gates n gs root j ++ (kept_gate n gs root j ∷ [])
  unfolding kept_gates
  gates-new j t =
      ap (λ (b : Bool). kept_gates n gs root j ++ cond b (kept_gate n gs root j ∷ []) []) (true-T (in_cone n gs root (n + 1 + j)) t)

  gates-stay : (j p : ℕ) → p < kept_before n gs root j → get_or (kept_gates n gs root (suc j)) p no_gate ≡ get_or (kept_gates n gs root j) p no_gate
  unfolding kept_gates
  gates-stay j p h =
      get_or-append (kept_gates n gs root j) (cond (in_cone n gs root (n + 1 + j)) (kept_gate n gs root j ∷ []) []) no_gate p (omega (arith, length-gates j))

  -- a gate that is kept stands behind those that are kept before it
  gates-at : (j i : ℕ) → i < j → T (in_cone n gs root (n + 1 + i)) → get_or (kept_gates n gs root j) (kept_before n gs root i) no_gate ≡ kept_gate n gs root i
  gates-at zero i h t = absurd (not-suc-le-zero h)
  gates-at (suc j) i h t =
      ⊎_elim
      (λ (e : i ≡ j).
      let u = subst (λ (x : ℕ). T (in_cone n gs root (n + 1 + x))) e t in
      ap (λ (x : ℕ). get_or (kept_gates n gs root (suc j)) (kept_before n gs root x) no_gate) e
      ∙ ap (λ (l : List Gate). get_or l (kept_before n gs root j) no_gate) (gates-new j u)
      ∙ get_or_at (kept_gates n gs root j) (kept_gate n gs root j) [] no_gate (kept_before n gs root j) (length-gates j)
      ∙ ap (kept_gate n gs root) (sym e))
      (λ l. gates-stay j (kept_before n gs root i) (before-lt n gs root i j l t) ∙ gates-at j i l t)
      (eq-or-lt_of_le (le_of_suc-le-suc h))

  -- the literal's variable is the number of the edge's node, and the sign stays
  pub renumbered-var : (e : ℕ) → var (renumbered n gs root e) ≡ number n gs root (var e)
  unfolding renumbered
  renumbered-var e = omega arith

  pub renumbered-sign : (e : ℕ) → renumbered n gs root e % 2 ≡ e % 2
  unfolding renumbered
  renumbered-sign e = omega arith

  pub renumbered-same : (d e : ℕ) → Numbered n gs root (var d) → Numbered n gs root (var e) → renumbered n gs root d ≡ renumbered n gs root e → d ≡ e
  renumbered-same d e a b q =
      let v : number n gs root (var d) ≡ number n gs root (var e) = sym (renumbered-var d) ∙ ap var q ∙ renumbered-var e in
      let s : d % 2 ≡ e % 2 = sym (renumbered-sign d) ∙ ap (λ (x : ℕ). x % 2) q ∙ renumbered-sign e in
      omega (arith, number_same n gs root (var d) (var e) a b v)

  -- gate p of the circuit is gate i of the graph
  pub record GateFrom (p i : ℕ) : Type 0 where
    pub inside : i < length gs
    pub kept : T (in_cone n gs root (n + 1 + i))
    pub place : kept_before n gs root i ≡ p
    pub gate : gate_at (folded n gs root) p ≡ kept_gate n gs root i

  pub length-folded : length (folded n gs root).gates ≡ kept_before n gs root (length gs)
  unfolding folded
  length-folded = length-gates (length gs)

  pub from-gate : (i : ℕ) → i < length gs → T (in_cone n gs root (n + 1 + i)) → GateFrom (kept_before n gs root i) i
  unfolding folded
  from-gate i h t = record { inside = h; kept = t; place = refl; gate = gates-at (length gs) i h t }

  pub to-gate : (p : ℕ) → p < length (folded n gs root).gates → (i : ℕ) × GateFrom p i
  to-gate p h =
      let q = position n gs root (length gs) p (omega (arith, length-folded)) in
      (q.0, subst (λ (x : ℕ). GateFrom x q.0) q.3 (from-gate q.0 q.1 q.2))

  -- two gates stand in the graph's order
  pub from-order : {p q i j : ℕ} → GateFrom p i → GateFrom q j → p < q → i < j
  from-order {p} {q} {i} {j} a b h =
      ⊎_elim (λ l. l) (λ (l : j ≤ i). absurd (omega (arith, before-le n gs root j i l, a.place, b.place))) (lt-or i j)
    where
      lt-or : (x y : ℕ) → (x < y) ⊎ (y ≤ x)
      lt-or x zero = inr (omega arith)
      lt-or zero (suc y) = inl (omega arith)
      lt-or (suc x) (suc y) = ⊎_elim (λ a. inl (omega arith)) (λ a. inr (omega arith)) (lt-or x y)

  module _ (built : Built n gs) where
    -- the nodes of the operands of a gate that is kept have numbers
    pub operand-numbered : (i k : ℕ) → i < length gs → T (in_cone n gs root (n + 1 + i)) → Operand gs i k → Numbered n gs root k
    operand-numbered i k h t o = inr (operand-kept n gs root built i k h t o)

    -- what holds of a gate of the circuit
    pub record Shape (p : ℕ) (g : Gate) : Type 0 where
      pub lit : g.lit ≡ 2 * (n + 1 + p)
      pub larger : var g.right < var g.left
      pub earlier : var g.left < n + 1 + p
      pub nonconstant : 2 ≤ g.right

    kept-shape : (i : ℕ) → i < length gs → T (in_cone n gs root (n + 1 + i)) → Shape (kept_before n gs root i) (kept_gate n gs root i)
    unfolding kept_gate
    kept-shape i h t =
        let l = (pair_at gs i).left in
        let r = (pair_at gs i).right in
        let a = operand-numbered i (var l) h t (inl refl) in
        let b = operand-numbered i (var r) h t (inr refl) in
        let u = number_lt n gs root (var r) (var l) (built.larger i h) b in
        let v = number_lt n gs root (var l) (n + 1 + i) (built.earlier i h) a in
        let z = number_lt n gs root 0 (var r) (omega (arith, built.nonconstant i h)) (inl (omega arith)) in
        record {
          lit = omega (arith, number-gate n gs root i);
          larger = omega (arith, renumbered-var l, renumbered-var r);
          earlier = omega (arith, renumbered-var l, number-gate n gs root i);
          nonconstant = omega (arith, renumbered-var r);
        }

    pub shape : (p : ℕ) → p < length (folded n gs root).gates → Shape p (gate_at (folded n gs root) p)
    shape p h =
        let q = to-gate p h in
        let s : Shape p (kept_gate n gs root q.0) = subst (λ (x : ℕ). Shape x (kept_gate n gs root q.0)) q.1.place (kept-shape q.0 q.1.inside q.1.kept) in
        subst (λ (g : Gate). Shape p g) (sym q.1.gate) s

    module _ (inside : var root < nodes n gs) where
      -- the output's variable is within the circuit's
      pub output-bound : var (renumbered n gs root root) ≤ n + kept_before n gs root (length gs)
      output-bound = omega (arith, renumbered-var root, number_bound n gs root (var root) inside (inr (root_kept n gs root)))
