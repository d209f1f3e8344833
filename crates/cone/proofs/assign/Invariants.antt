-- The gates before node k are numbered, whatever root has the marks. Assumes nothing.
use mathlib.Core.List.{List}
use Prim.Native.Nat.{ℕ, ◌≤◌}
use Rattle.nodes.specs.Graph.{Pair}
use Rattle.cone.proofs.Numbering.{ChangedTo, NumberedTo, GateMarks}
use Rattle.cone.proofs.assign.Given as goal

abbrev pub invariant-loop-k : goal.invariant-loop-k
invariant-loop-k l =
    (l.first ≤ l.next) × (l.next ≤ l.k) × ChangedTo l.initial.work l.work l.fn.g l.k
    × ((gs : List Pair) (root : ℕ) → GateMarks gs l.initial.work l.fn.g root → NumberedTo gs l.work l.fn.g root l.k l.next)
