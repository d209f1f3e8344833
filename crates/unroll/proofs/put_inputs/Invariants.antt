-- The first i inputs have their edges. Assumes nothing.
use Rattle.unroll.specs.Map.{Written, input_var, input_word}
use Rattle.unroll.proofs.put_inputs.Given as goal

abbrev pub invariant-loop-i : goal.invariant-loop-i
invariant-loop-i l = Written (input_var l.m) (input_word l.first) l.i l.fn.map l.map
