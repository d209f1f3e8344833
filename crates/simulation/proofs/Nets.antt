-- A graph in working memory with the marks of a cone, and the values of its nodes. Assumes nothing.
use mathlib.Core.Path.{◌≡◌, refl, sym, ap, ap₂, ◌∙◌, subst}
use mathlib.Core.Bool.{Bool, true, false, cond, ◌&&◌}
use mathlib.Core.List.{List}
use mathlib.Core.Logic.{inl, inr, ⊎_elim}
use Prim.Native.Nat.{ℕ, zero, suc, ◌+◌, ◌-◌, ◌*◌, ◌/◌, ◌%◌, ◌^◌, ◌≤◌, ◌<◌}
use native.Mathlib.Decide.{ℕ_discrete}
use native.Mathlib.Omega.{arith}
use lib.Dec.{T}
use lib.ListN.{length, get_or}
use Rattle.aiger.specs.Bits.{nonzero, bit}
use Rattle.aiger.specs.Circuit.{var}
use Rattle.aiger.specs.Frames.{value}
use Rattle.aiger.proofs.Tests.{true-T, T_true}
use Rattle.nodes.specs.Graph.{Pair, pair_at, nodes, node_values, edge_value, Built}
use Rattle.nodes.specs.Store.{field, pair_of, pairs_of, Sized}
use Rattle.nodes.specs.declared.Graph.{Graph}
use Rattle.nodes.proofs.Laws.{pair_at-pairs_of, pairs_of-same, length-pairs_of}
use Rattle.cone.specs.Cone.{in_cone}
use Rattle.cone.specs.Store.{Marks}
use Rattle.cone.proofs.Cone.{operand-kept}
use Rattle.support.specs.Support.{node_value}
use Rattle.support.proofs.Support.{gate-value}
use Rattle.simulation.specs.Store.{half, Kept, Net, Evaluable, GateEvaluated, Simulated, WordPut}
use Rattle.simulation.proofs.Words.{value_same}

-- ---- words that stay

pub kept-none : (work : List ℕ) → Kept work work
kept-none work v f h a b = refl

pub kept_trans : (work mid last : List ℕ) → Kept work mid → Kept mid last → Kept work last
kept_trans work mid last k l v f h a b = l v f h a b ∙ k v f h a b

pub kept-gate : (work last : List ℕ) (k : ℕ) → GateEvaluated work last k → Kept work last
kept-gate work last k e v f h a b = e.others (16 * v + f) (λ z. omega arith) (λ z. omega arith)

pub kept_word : (work last : List ℕ) (k word : ℕ) → WordPut work last k word → Kept work last
kept_word work last k word e v f h a b = e.others (16 * v + f) (λ z. omega arith) (λ z. omega arith)

-- ---- the graph

module _ {gs : List Pair} {root : ℕ} {work : List ℕ} {g : Graph} (net : Net gs root work g) where
  pub net-kept : (last : List ℕ) → Kept work last → length last ≡ length work → Net gs root last g
  net-kept last k z =
      record {
        sized =
            record { leaves = net.sized.leaves; nodes = net.sized.nodes; room = net.sized.room; held = omega (arith, net.sized.held) };
        pairs =
            pairs_of-same work last g
            (λ v l h. (k v 0 (omega arith) (λ e. omega arith) (λ e. omega arith), k v 1 (omega arith) (λ e. omega arith) (λ e. omega arith)))
            ∙ net.pairs;
        built = net.built;
        marks = λ v h. k v 10 (omega arith) (λ e. omega arith) (λ e. omega arith) ∙ net.marks v h;
        inside = net.inside;
      }

  pub net-held : (v : ℕ) → v < g.nodes → 16 * v + 16 ≤ length work
  net-held v h = omega (arith, net.sized.nodes, net.sized.held)

  -- how many gates there are
  pub net-gates : length gs ≡ g.nodes - (g.free + 1)
  net-gates = ap (λ (l : List Pair). length l) (sym net.pairs) ∙ length-pairs_of work g

  -- the operands of node k are those of its gate
  net-pair : (k : ℕ) → g.free < k → k < g.nodes → pair_of work k ≡ pair_at gs (k - (g.free + 1))
  net-pair k h l =
      let e : g.free + 1 + (k - (g.free + 1)) ≡ k = omega arith in
      ap (pair_of work) (sym e) ∙ sym (pair_at-pairs_of work g (k - (g.free + 1)) (omega arith))
      ∙ ap (λ (x : List Pair). pair_at x (k - (g.free + 1))) net.pairs

  pub net-left : (k : ℕ) → g.free < k → k < g.nodes → field work k 0 ≡ (pair_at gs (k - (g.free + 1))).left
  net-left k h l = ap (λ (p : Pair). p.left) (net-pair k h l)

  pub net-right : (k : ℕ) → g.free < k → k < g.nodes → field work k 1 ≡ (pair_at gs (k - (g.free + 1))).right
  net-right k h l = ap (λ (p : Pair). p.right) (net-pair k h l)

  -- which are earlier nodes
  pub net-evaluable : (k : ℕ) → g.free < k → k < g.nodes → Evaluable work k
  net-evaluable k h l =
      let i = k - (g.free + 1) in
      let u : i < length gs = omega (arith, net-gates) in
      record {
        held = net-held k l;
        left = omega (arith, net-left k h l, net.built.earlier i u);
        right = omega (arith, net-right k h l, net.built.earlier i u, net.built.larger i u);
      }

  mark-one : (b : Bool) → T b → nonzero (cond b 1 0) ≡ true
  mark-one true t = refl
  mark-one false t = absurd t

  mark-in : (b : Bool) → T (nonzero (cond b 1 0)) → T b
  mark-in true t = tt
  mark-in false t = absurd t

  -- what leads to the root is marked, and what is marked leads to it
  pub net-marked : (k : ℕ) → k < g.nodes → T (in_cone g.free gs root k) → T (nonzero (field work k 10))
  net-marked k h t = T_true (ap nonzero (net.marks k h) ∙ mark-one (in_cone g.free gs root k) t)

  pub net-mark-is : (k : ℕ) → k < g.nodes → nonzero (field work k 10) ≡ in_cone g.free gs root k
  net-mark-is k h = ap nonzero (net.marks k h) ∙ go (in_cone g.free gs root k)
    where
      go : (b : Bool) → nonzero (cond b 1 0) ≡ b
      go true = refl
      go false = refl

  -- one gate more has its values
  pub simulated-more : (f : ℕ → ℕ → ℕ → Bool) (last : List ℕ) (k : ℕ) → g.free < k → k < g.nodes → GateEvaluated work last k
      → Simulated g.free gs root f work k → Simulated g.free gs root f last (k + 1)
  simulated-more f last k h l e s v u t c q hc hq =
      elim (ℕ_discrete v k) [
        | yes z ↦ subst (λ (x : ℕ). half last c q x ≡ node_value g.free gs (f c q) x) (sym z) (here (subst (λ (x : ℕ). T (in_cone g.free gs root x)) z t))
        | no z ↦
            ap (λ (w : ℕ). bit w q) (e.others (16 * v + (2 + c)) (λ y. z (omega arith)) (λ y. z (omega arith))) ∙ s v (omega arith) t c q hc hq
      ]
    where
      few : k - (g.free + 1) < length gs
      few = omega (arith, net-gates)

      at : g.free + 1 + (k - (g.free + 1)) ≡ k
      at = omega arith

      operand : (d o : ℕ) → d ≡ o → var o < k → T (in_cone g.free gs root (var o)) → value (half work c q) d ≡ edge_value g.free gs (f c q) o
      operand d o z w y =
          ap (value (half work c q)) z
          ∙ value_same (half work c q) (λ x. node_value g.free gs (f c q) x) o (s (var o) w y c q hc hq)

      here : T (in_cone g.free gs root k) → half last c q k ≡ node_value g.free gs (f c q) k
      here y =
          let kept = subst (λ (x : ℕ). T (in_cone g.free gs root x)) (sym at) y in
          let p = pair_at gs (k - (g.free + 1)) in
          let lo = net.built.earlier (k - (g.free + 1)) few in
          let ro = net.built.larger (k - (g.free + 1)) few in
          e.result (net-marked k l y) c q hc hq
          ∙ ap₂ (λ (x z : Bool). x && z)
          (operand (field work k 0) p.left (net-left k h l) (omega arith) (operand-kept g.free gs root net.built (k - (g.free + 1)) (var p.left) few kept (inl refl)))
          (operand (field work k 1) p.right (net-right k h l) (omega arith) (operand-kept g.free gs root net.built (k - (g.free + 1)) (var p.right) few kept (inr refl)))
          ∙ sym (gate-value g.free gs net.built (f c q) (k - (g.free + 1)) few)
          ∙ ap (node_value g.free gs (f c q)) at
