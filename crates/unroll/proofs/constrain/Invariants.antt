-- The first constraints are part of the conjunction. Assumes nothing.
use Rattle.unroll.proofs.Hits.{LeftUpto}
use Rattle.unroll.proofs.constrain.Given as goal

abbrev pub invariant-loop-done : goal.invariant-loop-done
invariant-loop-done l = LeftUpto l.m l.constraints l.done l.fn.g.free l.fn.from l.fn.work l.fn.g l.map l.work l.graph l.left
