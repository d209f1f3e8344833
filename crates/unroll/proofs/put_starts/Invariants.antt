-- The first j latches have the edges of their starts. Assumes nothing.
use mathlib.Core.Path.{◌≡◌}
use Rattle.layout.specs.Words.{circuit_in}
use Rattle.frames.specs.Starts.{free_before}
use Rattle.unroll.specs.Map.{Written, latch_var, start_word}
use Rattle.unroll.proofs.put_starts.Given as goal

abbrev pub invariant-loop-j : goal.invariant-loop-j
invariant-loop-j l = (l.next ≡ free_before (circuit_in l.m) l.j) × Written (latch_var l.m l.latches) (start_word l.m l.latches) l.j l.fn.map l.map
