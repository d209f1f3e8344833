use Rattle.std.proofs.Common.{◌≡◌, drop}
use Rattle.layout.specs.Words.{circuit_in}
use Rattle.diagrams.specs.States.{state_of}
use Rattle.diagram_rows.specs.Rows.{with_literals}
use Rattle.diagram_rows.proofs.constrain.Given as goal

-- what is left of the constraints, from the diagram and the edge that there are, gives what all of them give
abbrev pub invariant-loop-k : goal.invariant-loop-k
invariant-loop-k l =
    with_literals l.edges (drop l.k (circuit_in l.m).constraints) (state_of l.w) l.con
    ≡ with_literals l.edges (circuit_in l.m).constraints (state_of l.initial.w) 1
