-- The constant and the first j free bits have their values. Assumes nothing.
use Prim.Native.Nat.{◌+◌}
use Rattle.signatures.proofs.Simulations.{LeavesUpto}
use Rattle.signatures.proofs.set_leaves.Given as goal

abbrev pub invariant-loop-j : goal.invariant-loop-j
invariant-loop-j l = LeavesUpto l.fn.work l.work l.free l.q (l.j + 1)
