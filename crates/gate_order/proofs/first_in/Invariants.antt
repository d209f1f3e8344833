-- No gate looked at waits for nothing. Assumes nothing.
use Rattle.gate_order.proofs.Blocks.{Looking}
use Rattle.gate_order.proofs.first_in.Given as goal

abbrev pub invariant-loop-i : goal.invariant-loop-i
invariant-loop-i l = Looking l.waiting l.from l.to l.i
