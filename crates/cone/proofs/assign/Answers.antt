-- Each turn numbers a gate, if it is marked. Assumes nothing.
use native.Mathlib.Omega.{arith}
use Rattle.nodes.specs.Store.{pairs_of}
use Rattle.nodes.proofs.Laws.{length-pairs_of}
use Rattle.cone.proofs.Stores.{others-pairs}
use Rattle.cone.proofs.Numbering.{count-bound, changed-none, changed-more, numbered-start, numbered_more, gate-marks, assigned-others, assigned}
use Rattle.cone.proofs.assign.Goals as goal

pub loop-k-init : goal.loop-k-init
loop-k-init c =
    let g = c.args.g in
    let w = c.number_leaves.new.work in
    (omega arith, omega arith, changed-none w g _, λ gs root m. numbered-start gs w g root _ (omega arith))

pub loop-k-preserved : goal.loop-k-preserved
loop-k-preserved c =
    let g = c.args.g in
    let w = c.number_leaves.new.work in
    let b = count-bound c.number_gate-next.ensures in (
      omega (arith, b.0),
      omega (arith, b.1),
      changed-more w c.loop-k.work c.number_gate-next.new.work g c.loop-k.k c.loop-k.next c.number_gate-next.result (omega arith) (omega arith) c.number_gate-next.auto.work c.loop-k.invariant.2 c.number_gate-next.ensures,
      λ gs root m.
          numbered_more gs w c.loop-k.work c.number_gate-next.new.work g root c.loop-k.k c.loop-k.next c.number_gate-next.result (omega arith) c.loop-k.invariant.2 (m c.loop-k.k (omega arith) (omega arith))
          (c.loop-k.invariant.3 gs root m) c.number_gate-next.ensures,
    )

pub returns : goal.returns
returns c =
    let a = c.args in
    let w = a.work.now in
    let gs = pairs_of w a.g in
    let o = assigned-others w c.number_leaves.new.work c.loop-k.work a.g c.loop-k.k (omega arith) c.number_leaves.ensures c.loop-k.invariant.2 in
    record {
      assigned = λ root m.
          assigned gs w c.number_leaves.new.work c.loop-k.work a.g root c.loop-k.k c.loop-k.next (omega arith) (length-pairs_of w a.g) (omega arith) c.number_leaves.ensures c.loop-k.invariant.2
          (c.loop-k.invariant.3 gs root (gate-marks gs w c.number_leaves.new.work a.g root c.number_leaves.ensures m));
      pairs = others-pairs w c.loop-k.work a.g a.g.nodes o;
      others = o;
    }
