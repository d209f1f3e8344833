-- The gates that are counted so far. Assumes nothing.
use Rattle.gate_order.proofs.Counts.{Started}
use Rattle.gate_order.proofs.start_waiting.Given as goal

abbrev pub invariant-loop-i : goal.invariant-loop-i
invariant-loop-i l = Started l.vars l.ops l.table l.fn.marks l.waiting l.marks l.i
