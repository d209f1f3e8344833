use Rattle.std.proofs.Common.{◌≡◌, drop}
use Rattle.layout.specs.Words.{circuit_in}
use Rattle.diagrams.specs.States.{state_of}
use Rattle.diagram_rows.specs.Rows.{gates_put}
use Rattle.diagram_rows.proofs.put_gates.Given as goal

-- what is left of the gates, from the diagram and the map that there are, gives what all of them give
abbrev pub invariant-loop-g : goal.invariant-loop-g
invariant-loop-g l =
    gates_put (circuit_in l.m) (drop l.g-index l.gates) (state_of l.w) l.edges
    ≡ gates_put (circuit_in l.m) l.gates (state_of l.initial.w) l.initial.edges
