-- The gates before place i are read. Assumes nothing.
use Rattle.circuit_numbers.specs.Numbers.{Read}
use Rattle.circuit_numbers.proofs.read_gates.Given as goal

abbrev pub invariant-loop-i : goal.invariant-loop-i
invariant-loop-i l = Read l.m l.first l.i l.vars l.ops
