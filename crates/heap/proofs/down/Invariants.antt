-- The invariant of `heap::down`: what is left of the way ends as all of it does. Assumes nothing.
use Rattle.std.proofs.Common.{◌≡◌, ◌-◌}
use Rattle.heap.specs.Heap.{downed, is_below, larger, child}
use Rattle.heap.proofs.down.Given as goal

abbrev pub invariant-loop : goal.invariant-loop
invariant-loop l = downed l.work l.nodes l.size l.v l.at (l.n - l.counter) ≡ downed l.initial.work l.nodes l.size l.v l.initial.at l.n
