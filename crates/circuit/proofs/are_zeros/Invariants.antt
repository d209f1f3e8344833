-- The words passed are 0. Assumes nothing.
use Rattle.circuit.specs.Held.{Zeros}
use Rattle.circuit.proofs.are_zeros.Given as goal

abbrev pub invariant-loop-i : goal.invariant-loop-i
invariant-loop-i l = Zeros l.m l.from l.i
