-- The first k gates in the order have their edges. Assumes nothing.
use Rattle.layout.specs.Words.{circuit_in}
use Rattle.unroll.proofs.Gates.{MadeUpto}
use Rattle.unroll.proofs.put_gates.Given as goal

abbrev pub invariant-loop-k : goal.invariant-loop-k
invariant-loop-k l = MadeUpto (circuit_in l.m) l.order l.k l.fn.g.free l.fn.work l.fn.g l.fn.map l.work l.graph l.map
