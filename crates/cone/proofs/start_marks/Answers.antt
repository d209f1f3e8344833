-- Each turn clears a mark. Assumes nothing.
use native.Mathlib.Omega.{arith}
use Rattle.cone.proofs.Stores.{filled_none, filled_more}
use Rattle.cone.proofs.Marking.{top-marked}
use Rattle.cone.proofs.start_marks.Goals as goal

pub loop-k-init : goal.loop-k-init
loop-k-init c = filled_none (λ _. 0) c.args.work.now c.args.g.nodes

pub loop-k-preserved : goal.loop-k-preserved
loop-k-preserved c =
    let a = c.args in
    filled_more (λ _. 0) a.work.now c.loop-k.work a.g.nodes c.loop-k.k _ (omega arith) (omega arith) (omega arith) c.loop-k.invariant

pub returns : goal.returns
returns c =
    let a = c.args in
    top-marked a.work.now c.loop-k.work a.g a.top.0 c.loop-k.k (omega arith) (omega arith) (omega arith) c.loop-k.invariant
