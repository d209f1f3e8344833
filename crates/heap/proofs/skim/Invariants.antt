-- The invariant of `heap::skim`: what is left of the heap ends as all of it does. Assumes nothing.
use Rattle.std.proofs.Common.{◌≡◌, ◌-◌}
use Rattle.heap.specs.Heap.{skimmed}
use Rattle.memory.specs.Record.{field}
use Rattle.heap.proofs.skim.Given as goal

abbrev pub invariant-loop : goal.invariant-loop
invariant-loop l = skimmed l.work l.nodes l.h (l.n - l.counter) ≡ skimmed l.initial.work l.nodes l.initial.h l.n
