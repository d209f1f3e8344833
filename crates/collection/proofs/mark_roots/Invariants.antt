use Rattle.std.proofs.Common.{◌≡◌}
use Rattle.diagrams.specs.States.{state_of}
use Rattle.collection.specs.Collecting.{with_nodes, rooted_in}
use Rattle.collection.proofs.mark_roots.Given as goal

-- the nodes of the roots before the index are marked
abbrev pub invariant-loop-root : goal.invariant-loop-root
invariant-loop-root l =
    state_of l.w ≡ with_nodes (state_of l.initial.w) (rooted_in l.roots l.root-index (state_of l.initial.w).nodes)
