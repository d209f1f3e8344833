use Rattle.std.proofs.Common.{◌≡◌}
use Rattle.diagrams.specs.States.{state_of}
use Rattle.collection.specs.Collecting.{with_nodes, unmarked_in}
use Rattle.collection.proofs.unmark.Given as goal

-- the nodes before place i have no mark
abbrev pub invariant-loop-i : goal.invariant-loop-i
invariant-loop-i l = state_of l.w ≡ with_nodes (state_of l.initial.w) (unmarked_in l.i (state_of l.initial.w).nodes)
