-- The lines of the first j inputs are written. Assumes nothing.
use Rattle.output.specs.Output.{Placed}
use Rattle.fold.specs.Text.{inputs_text}
use Rattle.fold.proofs.write_inputs.Given as goal

abbrev pub invariant-loop-j : goal.invariant-loop-j
invariant-loop-j l = Placed l.fn.out l.fn.at (inputs_text l.j) l.end l.out
