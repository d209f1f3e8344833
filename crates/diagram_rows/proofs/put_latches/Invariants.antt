use Rattle.std.proofs.Common.{◌≡◌, drop}
use Rattle.layout.specs.Words.{circuit_in}
use Rattle.diagrams.specs.States.{state_of}
use Rattle.diagram_rows.specs.Rows.{latches_put}
use Rattle.diagram_rows.proofs.put_latches.Given as goal

-- what is left of the latches, from the diagram and the map that there are, gives what all of them give
abbrev pub invariant-loop-v : goal.invariant-loop-v
invariant-loop-v l =
    latches_put (circuit_in l.m) l.v (drop l.v l.latches) (state_of l.w) l.edges
    ≡ latches_put (circuit_in l.m) 0 l.latches (state_of l.initial.w) l.initial.edges
