-- The latches so far have themselves as resets. Assumes nothing.
use Rattle.freeing.specs.Steps.{Reset}
use Rattle.freeing.proofs.free_resets.Given as goal

abbrev pub invariant-loop-j : goal.invariant-loop-j
invariant-loop-j l = Reset l.at l.j l.fn.words l.words
