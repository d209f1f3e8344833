-- Each turn gives a latch its edge. Assumes nothing.
use mathlib.Core.Path.{◌≡◌, ap, ◌∙◌, subst}
use Prim.Native.Nat.{ℕ}
use native.Mathlib.Omega.{arith}
use lib.ListN.{get_or}
use Rattle.literals.specs.declared.Lit.{Lit}
use Rattle.literals.specs.declared.Var.{Var}
use Rattle.nodes.specs.Edges.{edge_word}
use Rattle.nodes.specs.declared.Edge.{Edge}
use Rattle.nodes.proofs.Laws.{edge-word}
use Rattle.frames.proofs.Facts.{latches-inside, latches-few, latches-apart}
use Rattle.frames.proofs.Stores.{stored-start}
use Rattle.unroll.specs.Map.{Written, latch_var}
use Rattle.unroll.proofs.Stores.{put-more}
use Rattle.unroll.proofs.put_state.Goals as goal

pub loop-j-init : goal.loop-j-init
loop-j-init c = stored-start _ _ _

pub overflow_mul-j : goal.overflow_mul-j
overflow_mul-j c = omega (arith, latches-inside c.requires.prepared.1)

pub overflow_add-latches : goal.overflow_add-latches
overflow_add-latches c = omega (arith, latches-inside c.requires.prepared.1)

pub bounds-m-latches : goal.bounds-m-latches
bounds-m-latches c = omega (arith, latches-inside c.requires.prepared.1)

pub bounds-state-j : goal.bounds-state-j
bounds-state-j c = omega (arith, latches-few c.requires.prepared.1)

pub put_edge-requires : goal.put_edge-requires
put_edge-requires c = (
  omega (arith, ap (λ (v : Var). v.0) c.var.ensures, ap (λ (l : Lit). l.0.0) c.from_word-l.ensures, (latches-apart c.requires.prepared.1).below c.loop-j.j (omega arith)),
  omega (arith, ap (λ (e : Edge). edge_word e) c.from_word.ensures, edge-word (get_or c.args.state.now c.loop-j.j 0), c.type_inv.state c.loop-j.j),
)

pub loop-j-preserved : goal.loop-j-preserved
loop-j-preserved c =
    put-more (latch_var c.args.m.now c.args.layout.latches) (λ i. get_or c.args.state.now i 0) c.loop-j.j c.args.map.now c.loop-j.map c.put_edge.new.map (latches-apart c.requires.prepared.1) c.loop-j.auto.map
    (omega arith) c.loop-j.invariant (ap (λ (v : Var). v.0) c.var.ensures ∙ ap (λ (l : Lit). l.0.0) c.from_word-l.ensures)
    (ap (λ (e : Edge). edge_word e) c.from_word.ensures ∙ edge-word (get_or c.args.state.now c.loop-j.j 0)) c.put_edge.ensures

pub returns : goal.returns
returns c =
    let e : c.loop-j.j ≡ c.args.layout.l = omega arith in
    subst (λ (n : ℕ). Written (latch_var c.args.m.now c.args.layout.latches) (λ i. get_or c.args.state.now i 0) n c.args.map.now c.loop-j.map) e c.loop-j.invariant
