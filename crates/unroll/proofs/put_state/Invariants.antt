-- The first j latches have their edges. Assumes nothing.
use lib.ListN.{get_or}
use Rattle.unroll.specs.Map.{Written, latch_var}
use Rattle.unroll.proofs.put_state.Given as goal

abbrev pub invariant-loop-j : goal.invariant-loop-j
invariant-loop-j l = Written (latch_var l.m l.latches) (λ i. get_or l.state i 0) l.j l.fn.map l.map
