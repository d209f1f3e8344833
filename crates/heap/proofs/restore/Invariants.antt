-- The invariant of `heap::restore`: what is left of the trail ends as all of it does. Assumes nothing.
use Rattle.std.proofs.Common.{◌≡◌}
use Rattle.heap.specs.Heap.{restored}
use Rattle.heap.proofs.restore.Given as goal

abbrev pub invariant-loop-t : goal.invariant-loop-t
invariant-loop-t l = restored l.work l.net l.h l.from l.t ≡ restored l.initial.work l.net l.initial.h l.from l.initial.t
