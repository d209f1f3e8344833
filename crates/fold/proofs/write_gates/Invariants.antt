-- The lines of the first j gates are written. Assumes nothing.
use Rattle.output.specs.Output.{Placed}
use Rattle.fold.specs.Text.{gates_text}
use Rattle.fold.proofs.write_gates.Given as goal

abbrev pub invariant-loop-j : goal.invariant-loop-j
invariant-loop-j l = Placed l.fn.out l.fn.at (gates_text l.work l.first l.j) l.end l.out
