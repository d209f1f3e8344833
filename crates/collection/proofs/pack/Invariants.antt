use Rattle.std.proofs.Common.{◌≡◌}
use Rattle.diagrams.specs.States.{state_of}
use Rattle.collection.specs.Collecting.{with_nodes, packed_in}
use Rattle.collection.proofs.pack.Given as goal

-- the marked nodes from 1 to j are at the front, and k is the next number
abbrev pub invariant-loop-j : goal.invariant-loop-j
invariant-loop-j l =
    (state_of l.w ≡ with_nodes (state_of l.initial.w) (packed_in l.j (state_of l.initial.w).nodes).nodes)
    × (l.k ≡ (packed_in l.j (state_of l.initial.w).nodes).count)
