use Rattle.std.proofs.Common.{◌≡◌}
use Rattle.diagrams.specs.States.{state_of}
use Rattle.collection.specs.Collecting.{with_nodes, swept_in}
use Rattle.collection.proofs.sweep.Given as goal

-- the last j nodes have been gone through
abbrev pub invariant-loop-j : goal.invariant-loop-j
invariant-loop-j l = state_of l.w ≡ with_nodes (state_of l.initial.w) (swept_in l.last l.j (state_of l.initial.w).nodes)
