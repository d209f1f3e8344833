-- The gates from node k on are passed, whatever root the marks began with. Assumes nothing.
use Prim.Native.Nat.{ℕ, ◌+◌, ◌≤◌}
use Rattle.cone.specs.Store.{Others}
use Rattle.cone.proofs.Marking.{MarkedFrom}
use Rattle.cone.proofs.mark.Given as goal

abbrev pub invariant-loop-k : goal.invariant-loop-k
invariant-loop-k l =
    (l.fn.g.free + 1 ≤ l.k) × (l.k ≤ l.fn.g.nodes) × Others l.initial.work l.work l.fn.g.nodes
    × ((root : ℕ) → MarkedFrom l.initial.work l.initial.work l.fn.g root l.fn.g.nodes → MarkedFrom l.initial.work l.work l.fn.g root l.k)
