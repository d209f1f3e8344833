-- The invariant of `conflicts::wipe`: what is left of the words ends as all of them do. Assumes nothing.
use Rattle.std.proofs.Common.{◌≡◌, ◌-◌}
use Rattle.conflicts.specs.Conflicts.{wiped}
use Rattle.conflicts.proofs.wipe.Given as goal

abbrev pub invariant-loop-at : goal.invariant-loop-at
invariant-loop-at l = wiped l.work l.at (l.n - l.at) ≡ wiped l.initial.work l.initial.at (l.n - l.initial.at)
