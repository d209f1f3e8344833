-- The leaves before v are false. Assumes nothing.
use Rattle.simulation.specs.Store.{LeavesCleared}
use Rattle.simulation.proofs.clear_leaves.Given as goal

abbrev pub invariant-loop-v : goal.invariant-loop-v
invariant-loop-v l = LeavesCleared l.fn.work l.work l.v
