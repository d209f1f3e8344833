-- The nodes below k have their values. Assumes nothing.
use Rattle.signatures.proofs.Simulations.{EvaluatedUpto}
use Rattle.signatures.proofs.eval_gates.Given as goal

abbrev pub invariant-loop-k : goal.invariant-loop-k
invariant-loop-k l = EvaluatedUpto l.fn.work l.work l.fn.g l.k
