-- The invariant of `heap::scale`: what is left of the nodes ends as all of them do. Assumes nothing.
use Rattle.std.proofs.Common.{◌≡◌}
use Rattle.heap.specs.Heap.{scaled}
use Rattle.heap.proofs.scale.Given as goal

abbrev pub invariant-loop-v : goal.invariant-loop-v
invariant-loop-v l = scaled l.work l.nodes l.v ≡ scaled l.initial.work l.nodes l.initial.v
