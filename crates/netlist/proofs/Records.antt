-- The records of a netlist: operands, what is known of each node, and that the values at each place obey the gates. Assumes nothing.
use mathlib.Core.Path.{◌≡◌, refl, sym, ap, ap₂, ◌∙◌, subst}
use mathlib.Core.Bool.{Bool, true, false, not, cond, ◌&&◌}
use mathlib.Core.List.{List, [], map}
use mathlib.Core.Logic.{inl, inr}
use Prim.Native.Nat.{ℕ, zero, suc, ◌+◌, ◌-◌, ◌*◌, ◌/◌, ◌%◌, ◌^◌, ◌≤◌, ◌<◌}
use native.Mathlib.Decide.{dec_lt}
use native.Mathlib.Omega.{arith}
use borrow.Author.Tests.{lt-ltb, le-leb, lt-leb, eq-eqb, ne_eqb}
use lib.Dec.{T}
use lib.ListN.{length, get_or}
use Rattle.aiger.specs.Lists.{upto}
use Rattle.aiger.specs.Bits.{nonzero, odd}
use Rattle.aiger.specs.Circuit.{var}
use Rattle.aiger.specs.Frames.{value, frame, state, value_at, free_bit}
use Rattle.aiger.specs.Fold.{value_on}
use Rattle.meaning.specs.Frame.{Valuation, gate_at, input_at}
use Rattle.meaning.proofs.Lists.{length-map-upto, get_d-map-upto}
use Rattle.meaning.proofs.Values.{frame-valuation}
use Rattle.meaning.proofs.Shape.{shape-right, shape-acyclic}
use Rattle.nodes.specs.Graph.{Pair, nodes, edge_value, Built}
use Rattle.cone.specs.Cone.{in_cone, kept_before, renumbered, folded}
use Rattle.cone.proofs.Cone.{root_kept}
use Rattle.cone.proofs.Gates.{length-folded, shape, output-bound}
use Rattle.cone.proofs.Circuit.{folded-shape}
use Rattle.cone.proofs.Values.{edge_on}
use Rattle.memory.specs.Record.{field, place, fixed, bit_at}
use Rattle.clauses.specs.Clause.{GateOf}
use Rattle.clauses.specs.Floor.{Free, prefix}
use Rattle.floor.specs.Place.{bit_of, floor_bit, is_idle}
use Rattle.netlist.specs.Netlist.{net_nodes, leaf_word, gate_word, record_word, plain_word, plain, net_words}
use Rattle.netlist.proofs.Links.{field-none, Linked, all-linked}
use Rattle.clauses.proofs.Resolution.{value-node}

module _ (n : ℕ) (gs : List Pair) (root words : ℕ) (room : 14 * net_nodes n gs root ≤ words) where
  abbrev N : ℕ
  N = net_nodes n gs root

  plain-long : length (plain n gs root words) ≡ words
  unfolding plain
  plain-long = length-map-upto (plain_word n gs root) words

  plain-field : (v f : ℕ) → v < net_nodes n gs root → f < 14 → field (plain n gs root words) (net_nodes n gs root) v f ≡ record_word n gs root v f
  unfolding plain plain_word field
  plain-field v f l h =
      let i = 14 * v + f in
      let a : i / 14 ≡ v = omega arith in
      let b : i % 14 ≡ f = omega arith in
      rw (lt-leb (net_nodes n gs root) v l)
      (get_d-map-upto (plain_word n gs root) words i 0 (omega arith)
      ∙ ap (λ (t : Bool). cond t (record_word n gs root (i / 14) (i % 14)) 0) (lt-ltb i (14 * net_nodes n gs root) (omega arith))
      ∙ ap₂ (record_word n gs root) a b)

  kept-words : Linked (plain n gs root words) (net_nodes n gs root) (subst (λ (k : ℕ). 14 * net_nodes n gs root ≤ k) (sym plain-long) room) (net_words n gs root words)
  unfolding net_words
  kept-words =
      all-linked (plain n gs root words) (net_nodes n gs root) (subst (λ (k : ℕ). 14 * net_nodes n gs root ≤ k) (sym plain-long) room) (n + 1) (net_nodes n gs root - (n + 1))

  pub net-long : length (net_words n gs root words) ≡ words
  net-long = kept-words.size ∙ plain-long

  pub operand : (v f : ℕ) → v < net_nodes n gs root → f < 2 → field (net_words n gs root words) (net_nodes n gs root) v f ≡ record_word n gs root v f
  operand v f l h = kept-words.operand v f h ∙ plain-field v f l (omega arith)

  known : (v : ℕ) → v < net_nodes n gs root → field (net_words n gs root words) (net_nodes n gs root) v 2 % 16 ≡ record_word n gs root v 2 % 16
  known v l = kept-words.known v ∙ ap (λ (x : ℕ). x % 16) (plain-field v 2 l (omega arith))

  pub nodes-more : n < net_nodes n gs root
  unfolding net_nodes
  nodes-more = omega arith

  -- ---- a node that is no gate

  pub leaf-operand : (v f : ℕ) → v ≤ n → f < 2 → field (net_words n gs root words) (net_nodes n gs root) v f ≡ 2 * v
  unfolding record_word leaf_word
  leaf-operand v f l h = operand v f (omega (arith, nodes-more)) h ∙ rw (le-leb v n l, lt-ltb f 2 h)

  pub leaf-known : (v : ℕ) → v ≤ n → field (net_words n gs root words) (net_nodes n gs root) v 2 % 16 ≡ cond (in_cone n gs root v) 0 8
  unfolding record_word leaf_word
  leaf-known v l = known v (omega (arith, nodes-more)) ∙ rw (le-leb v n l) (go (in_cone n gs root v))
    where
      go : (b : Bool) → cond b 0 8 % 16 ≡ cond b 0 8
      go true = refl
      go false = refl

  -- no free bit is idle
  pub not-idle : (v : ℕ) → v ≤ n → is_idle (net_words n gs root words) (net_nodes n gs root) v ≡ false
  unfolding is_idle
  not-idle v l =
      let e = leaf-operand v 0 l (omega arith) ∙ sym (leaf-operand v 1 l (omega arith)) in
      ap not (eq-eqb (field (net_words n gs root words) (net_nodes n gs root) v 0) (field (net_words n gs root words) (net_nodes n gs root) v 1) e)

  -- ---- a gate

  gate-left : (p : ℕ) → n + 1 + p < net_nodes n gs root → field (net_words n gs root words) (net_nodes n gs root) (n + 1 + p) 0 ≡ (gate_at (folded n gs root) p).left
  unfolding record_word gate_word
  gate-left p l =
      let e : n + 1 + p - (n + 1) ≡ p = omega arith in
      operand (n + 1 + p) 0 l (omega arith) ∙ rw (lt-leb (n + 1 + p) n (omega arith)) (ap (λ (i : ℕ). (gate_at (folded n gs root) i).left) e)

  gate-right : (p : ℕ) → n + 1 + p < net_nodes n gs root → field (net_words n gs root words) (net_nodes n gs root) (n + 1 + p) 1 ≡ (gate_at (folded n gs root) p).right
  unfolding record_word gate_word
  gate-right p l =
      let e : n + 1 + p - (n + 1) ≡ p = omega arith in
      operand (n + 1 + p) 1 l (omega arith) ∙ rw (lt-leb (n + 1 + p) n (omega arith)) (ap (λ (i : ℕ). (gate_at (folded n gs root) i).right) e)

  gate-known : (v : ℕ) → n < v → v < net_nodes n gs root → field (net_words n gs root words) (net_nodes n gs root) v 2 % 16 ≡ 0
  unfolding record_word gate_word
  gate-known v l h = known v h ∙ rw (lt-leb v n l)

  -- ---- what is known of each node

  digits-leaf : (b : Bool) (x : ℕ) → x % 16 ≡ cond b 0 8 → (fixed x ≡ 0) × (bit_at x ≡ cond b 0 2)
  digits-leaf true x e = (omega arith, omega arith)
  digits-leaf false x e = (omega arith, omega arith)

  digits-gate : (x : ℕ) → x % 16 ≡ 0 → (fixed x ≡ 0) × (bit_at x ≡ 0)
  digits-gate x e = (omega arith, omega arith)

  -- the floor's bits are 0, and 2 where the free bit does not lead to the root
  pub first-bits : (v : ℕ) → v ≤ n → bit_of (net_words n gs root words) (net_nodes n gs root) v ≡ cond (in_cone n gs root v) 0 2
  unfolding bit_of
  first-bits v l = (digits-leaf (in_cone n gs root v) (field (net_words n gs root words) (net_nodes n gs root) v 2) (leaf-known v l)).1

  cone-low : (b : Bool) (d : ℕ) → d ≡ cond b 0 2 → d ≡ 1 → ⊥
  cone-low true d e f = omega arith
  cone-low false d e f = omega arith

  -- nothing is fixed, and no bit of the floor is 1
  pub none-known : (v : ℕ) → (fixed (field (net_words n gs root words) (net_nodes n gs root) v 2) ≡ 0) × (bit_of (net_words n gs root words) (net_nodes n gs root) v ≡ 1 → ⊥)
  unfolding bit_of
  none-known v =
      let x = field (net_words n gs root words) (net_nodes n gs root) v 2 in
      elim (dec_lt v (net_nodes n gs root)) [
        | no h ↦ let z = field-none (net_words n gs root words) (net_nodes n gs root) v 2 (omega arith) in (omega arith, λ e. omega arith)
        | yes h ↦
            elim (dec_lt n v) [
              | yes l ↦ let d = digits-gate x (gate-known v l h) in (d.0, λ e. omega (arith, d.1))
              | no l ↦ let d = digits-leaf (in_cone n gs root v) x (leaf-known v (omega arith)) in (d.0, cone-low (in_cone n gs root v) (bit_at x) d.1)
            ]
      ]

  -- the floor is 0
  pub floor-zero : (v : ℕ) → prefix (floor_bit (net_words n gs root words) (net_nodes n gs root)) v ≡ 0
  unfolding prefix
  floor-zero zero = refl
  floor-zero (suc v) =
      let z : floor_bit (net_words n gs root words) (net_nodes n gs root) (suc v) ≡ 0 =
      rw (ne_eqb (bit_of (net_words n gs root words) (net_nodes n gs root) (suc v)) 1 (none-known (suc v)).1) in
      omega (arith, floor-zero v, z)

  module _ (built : Built n gs) (inside : var root < nodes n gs) where
    gate-inside : (p : ℕ) → n + 1 + p < net_nodes n gs root → p < length (folded n gs root).gates
    unfolding net_nodes
    gate-inside p l = omega (arith, length-folded n gs root)

    gate-place : (v : ℕ) → n < v → n + 1 + (v - (n + 1)) ≡ v
    gate-place v l = omega arith

    -- operands stand before their gates
    pub left-before : (v : ℕ) → n < v → v < net_nodes n gs root → field (net_words n gs root words) (net_nodes n gs root) v 0 / 2 < v
    left-before v l h =
        let p = v - (n + 1) in
        let e = gate-place v l in
        let q : n + 1 + p < net_nodes n gs root = omega arith in
        let s = shape n gs root built p (gate-inside p q) in
        subst (λ (x : ℕ). field (net_words n gs root words) (net_nodes n gs root) x 0 / 2 < x) e (omega (arith, gate-left p q, s.earlier))

    pub right-before : (v : ℕ) → n < v → v < net_nodes n gs root → field (net_words n gs root words) (net_nodes n gs root) v 1 / 2 < v
    right-before v l h =
        let p = v - (n + 1) in
        let e = gate-place v l in
        let q : n + 1 + p < net_nodes n gs root = omega arith in
        let s = shape n gs root built p (gate-inside p q) in
        subst (λ (x : ℕ). field (net_words n gs root words) (net_nodes n gs root) x 1 / 2 < x) e (omega (arith, gate-right p q, s.earlier, s.larger))

    pub root-inside : renumbered n gs root root / 2 < net_nodes n gs root
    unfolding net_nodes
    root-inside = omega (arith, output-bound n gs root built inside)

    -- ---- values

    -- the values of all nodes at place x
    abbrev pub val : ℕ → ℕ → Bool
    val x = frame (folded n gs root) [] (map (free_bit n x) (upto n))

    valuation : (x : ℕ) → Valuation (folded n gs root) (map (free_bit n x) (upto n)) [] (val x)
    valuation x =
        let s = folded-shape n gs root built inside in
        frame-valuation (folded n gs root) (shape-right s) (shape-acyclic s) [] (map (free_bit n x) (upto n))

    pub val-zero : (x : ℕ) → val x 0 ≡ false
    val-zero x = (valuation x).constant

    input-lit : (j : ℕ) → j < n → input_at (folded n gs root) j ≡ 2 * (j + 1)
    unfolding folded
    input-lit j h = get_d-map-upto (λ i. 2 * (i + 1)) n j 0 h

    length-inputs : length (folded n gs root).inputs ≡ n
    unfolding folded
    length-inputs = length-map-upto (λ i. 2 * (i + 1)) n

    pub val-free : Free n val
    val-free x j h =
        let e : j + 1 ≡ var (input_at (folded n gs root) j) = omega (arith, input-lit j h) in
        ap (val x) e ∙ (valuation x).input j (omega (arith, length-inputs)) ∙ get_d-map-upto (free_bit n x) n j false h

    and_same : (b : Bool) → b ≡ (b && b)
    and_same true = refl
    and_same false = refl

    gate-there : (x p : ℕ) → n + 1 + p < net_nodes n gs root
        → GateOf (val x) (n + 1 + p) (field (net_words n gs root words) (net_nodes n gs root) (n + 1 + p) 0) (field (net_words n gs root words) (net_nodes n gs root) (n + 1 + p) 1)
    gate-there x p l =
        let s = shape n gs root built p (gate-inside p l) in
        let e : n + 1 + p ≡ var (gate_at (folded n gs root) p).lit = omega (arith, s.lit) in
        ap (val x) e ∙ (valuation x).gate p (gate-inside p l)
        ∙ ap₂ (λ (d e : ℕ). value (val x) d && value (val x) e) (sym (gate-left p l)) (sym (gate-right p l))

    -- at each place each node is the conjunction of its operands
    pub obeyed : (x v : ℕ) → v < net_nodes n gs root
        → GateOf (val x) v (field (net_words n gs root words) (net_nodes n gs root) v 0) (field (net_words n gs root words) (net_nodes n gs root) v 1)
    obeyed x v h =
        elim (dec_lt n v) [
          | yes l ↦
              let e = gate-place v l in
              subst (λ (k : ℕ). GateOf (val x) k (field (net_words n gs root words) (net_nodes n gs root) k 0) (field (net_words n gs root words) (net_nodes n gs root) k 1)) e
              (gate-there x (v - (n + 1)) (omega arith))
          | no l ↦
              and_same (val x v)
              ∙ ap₂ (λ (b c : Bool). b && c) (sym (value-node (val x) v)) (sym (value-node (val x) v))
              ∙ ap₂ (λ (d e : ℕ). value (val x) d && value (val x) e) (sym (leaf-operand v 0 (omega arith) (omega arith))) (sym (leaf-operand v 1 (omega arith) (omega arith)))
        ]

    -- the netlist's root has the value of the graph's
    pub root-value : (x : ℕ) → value (val x) (renumbered n gs root root) ≡ edge_value n gs (free_bit n x) root
    unfolding value_on value_at state
    root-value x = edge_on n gs root built inside x root inside (inr (root_kept n gs root))
