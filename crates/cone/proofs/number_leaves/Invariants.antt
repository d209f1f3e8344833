-- The nodes before k have their own numbers. Assumes nothing.
use Prim.Native.Nat.{◌+◌}
use Rattle.cone.proofs.Stores.{Filled}
use Rattle.cone.proofs.number_leaves.Given as goal

abbrev pub invariant-loop-k : goal.invariant-loop-k
invariant-loop-k l = Filled (λ i. i) l.fn.work l.work (l.fn.g.free + 1) l.k
