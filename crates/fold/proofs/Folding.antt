-- From a frame that is unrolled, its cone marked and numbered, to the circuit that is written. Assumes nothing.
use mathlib.Core.Path.{◌≡◌, sym, ap, ◌∙◌, subst}
use mathlib.Core.Bool.{Bool, true, false, cond}
use mathlib.Core.List.{List}
use Prim.Native.Nat.{ℕ, ◌+◌, ◌*◌, ◌<◌}
use native.Mathlib.Omega.{arith}
use lib.Dec.{T}
use lib.ListN.{length}
use Rattle.aiger.specs.Circuit.{Circuit, var}
use Rattle.aiger.specs.Frames.{free_bits}
use Rattle.aiger.specs.Fold.{folds}
use Rattle.aiger.specs.Write.{write}
use Rattle.nodes.specs.Graph.{Pair, Built}
use Rattle.nodes.specs.Store.{pairs_of}
use Rattle.nodes.specs.Edges.{edge_word}
use Rattle.nodes.specs.declared.Edge.{Edge}
use Rattle.nodes.proofs.Laws.{nodes-pairs_of}
use Rattle.graph.specs.declared.Made.{Made}
use Rattle.cone.specs.Cone.{folded}
use Rattle.cone.specs.Store.{Markable, ConeMarked, Assigned, Assignment}
use Rattle.cone.proofs.Marking.{cone-marks}
use Rattle.cone.proofs.Folds.{folded-folds}
use Rattle.graph.specs.Chosen.{Outcome}
use Rattle.unroll.specs.Unrolled.{Unrolled}
use Rattle.fold.specs.Chosen.{chosen}
use Rattle.fold.specs.Text.{folded_in, Writable, Shown}

-- the node of an edge's word
pub edge-node : (e : Edge) → var (edge_word e) ≡ e.0.0
edge-node e = go e.1
  where
    go : (b : Bool) → var (2 * e.0.0 + cond b 1 0) ≡ e.0.0
    go true = omega arith
    go false = omega arith

-- the text of a circuit is that of an equal one
pub shown-as : {d e : Circuit} {out : List ℕ} {r : ℕ} {last : List ℕ} → d ≡ e → Shown (write d) out r last → Shown (write e) out r last
shown-as {out = out} {r = r} {last = last} q s = subst (λ (x : Circuit). Shown (write x) out r last) q s

module _ {c : Circuit} {b t room : ℕ} {work : List ℕ} {made : Made} (u : Unrolled c b t work room made) where
  pub markable : Markable work made.graph (edge_word made.edge)
  markable = record { sized = u.stored.sized; built = u.stored.built; inside = omega (arith, u.node, edge-node made.edge) }

  module _ {marked last : List ℕ} {kept : ℕ} (k : ConeMarked work marked made.graph (edge_word made.edge)) (a : Assignment marked last made.graph kept) where
    same : pairs_of last made.graph ≡ pairs_of work made.graph
    same = a.pairs ∙ k.pairs

    pub writable : length last ≡ length work → Writable last made.graph (edge_word made.edge) kept
    writable e =
        let g = made.graph in
        let root = edge_word made.edge in
        record {
          sized = rw e u.stored.sized;
          built = subst (λ (gs : List Pair). Built g.free gs) (sym same) u.stored.built;
          inside = markable.inside;
          assigned =
              subst (λ (gs : List Pair). Assigned gs last g root kept) (sym a.pairs) (a.assigned root (cone-marks work marked g root k));
        }

    -- the circuit is the chosen one, and a fold
    pub is-chosen : folded_in last made.graph (edge_word made.edge) ≡ chosen c b t
    unfolding chosen
    is-chosen =
        let g = made.graph in
        let root = edge_word made.edge in
        ap (λ (x : ℕ). folded x (pairs_of last g) root) u.free ∙ ap (λ (x : List Pair). folded (free_bits c t) x root) same
        ∙ sym (ap (λ (o : Outcome). folded (free_bits c t) o.gates o.edge) u.chosen)

    pub permitted : T (folds c b t (chosen c b t))
    unfolding chosen
    permitted =
        let g = made.graph in
        let root = edge_word made.edge in
        let n = free_bits c t in
        let gs = pairs_of work g in
        let built : Built n gs = subst (λ (x : ℕ). Built x gs) u.free u.stored.built in
        let inside : var root < n + 1 + length gs = omega (arith, markable.inside, nodes-pairs_of work g u.stored.sized.leaves, u.free) in
        subst (λ (o : Outcome). T (folds c b t (folded n o.gates o.edge))) (sym u.chosen) (folded-folds c b t gs root built inside u.hit)
