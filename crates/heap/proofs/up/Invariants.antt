-- The invariant of `heap::up`: what is left of the way ends as all of it does. Assumes nothing.
use Rattle.std.proofs.Common.{◌≡◌, ◌-◌}
use Rattle.heap.specs.Heap.{upped}
use Rattle.heap.proofs.up.Given as goal

abbrev pub invariant-loop : goal.invariant-loop
invariant-loop l = upped l.work l.nodes l.v l.at (l.n - l.counter) ≡ upped l.initial.work l.nodes l.v l.initial.at l.n
