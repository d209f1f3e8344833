-- The marks of the nodes before k are cleared. Assumes nothing.
use Rattle.cone.proofs.Stores.{Filled}
use Rattle.cone.proofs.start_marks.Given as goal

abbrev pub invariant-loop-k : goal.invariant-loop-k
invariant-loop-k l = Filled (λ _. 0) l.fn.work l.work l.fn.g.nodes l.k
