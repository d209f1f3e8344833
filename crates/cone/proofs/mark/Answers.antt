-- Each turn passes the gate before. Assumes nothing.
use mathlib.Core.Path.{refl}
use Prim.Native.Nat.{◌-◌}
use native.Mathlib.Omega.{arith}
use Rattle.nodes.specs.Edges.{edge_word}
use Rattle.nodes.proofs.Laws.{word-node}
use Rattle.cone.proofs.Stores.{others-trans}
use Rattle.cone.proofs.Marking.{marked-none, marked_more, passable, cone-marked}
use Rattle.cone.proofs.mark.Goals as goal

pub start_marks-requires : goal.start_marks-requires
start_marks-requires c = record { sized = c.requires.sized; top_lt_nodes = omega (arith, c.requires.inside, word-node c.args.root) }

pub loop-k-init : goal.loop-k-init
loop-k-init c = (omega arith, omega arith, λ i n. refl, λ root m. m)

pub mark_gate-requires : goal.mark_gate-requires
mark_gate-requires c =
    passable c.args.work.now c.start_marks.new.work c.loop-k.work c.args.g (edge_word c.args.root) (c.loop-k.k - 1) c.requires c.start_marks.auto.work (omega arith)
    c.start_marks.ensures.others c.loop-k.invariant.2 (omega arith) (omega arith)

pub loop-k-preserved : goal.loop-k-preserved
loop-k-preserved c =
    let g = c.args.g in (
      omega arith,
      omega arith,
      others-trans c.start_marks.new.work c.loop-k.work c.mark_gate.new.work g.nodes g.nodes (c.loop-k.k - 1) (omega arith) (omega arith) c.loop-k.invariant.2 c.mark_gate.ensures.others,
      λ root u. marked_more c.start_marks.new.work c.loop-k.work c.mark_gate.new.work g root c.loop-k.k (omega arith) (omega arith) (c.loop-k.invariant.3 root u) c.mark_gate.auto.work c.mark_gate.ensures,
    )

pub returns : goal.returns
returns c =
    let a = c.args in
    let w = a.work.now in
    let root = edge_word a.root in
    let top = a.root.0.0 in
    cone-marked w c.start_marks.new.work c.loop-k.work a.g root top c.loop-k.k (omega arith) (omega arith) c.start_marks.ensures
    (c.loop-k.invariant.3 root (marked-none w c.start_marks.new.work a.g root top (word-node a.root) c.start_marks.ensures))
