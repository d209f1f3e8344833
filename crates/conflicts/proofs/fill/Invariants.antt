-- The invariant of `conflicts::fill`: what is left of the nodes ends as all of them do. Assumes nothing.
use Rattle.std.proofs.Common.{◌≡◌, ◌-◌}
use Rattle.conflicts.specs.Conflicts.{filled}
use Rattle.conflicts.proofs.fill.Given as goal

abbrev pub invariant-loop : goal.invariant-loop
invariant-loop l = filled l.work l.net l.h l.v (l.n - l.counter) ≡ filled l.initial.work l.net l.initial.h l.initial.v l.n
