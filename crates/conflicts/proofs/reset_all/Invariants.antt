-- The invariant of `conflicts::reset_all`: what is left of the nodes ends as all of them do. Assumes nothing.
use Rattle.std.proofs.Common.{◌≡◌}
use Rattle.conflicts.specs.Conflicts.{reset_all}
use Rattle.conflicts.proofs.reset_all.Given as goal

abbrev pub invariant-loop-v : goal.invariant-loop-v
invariant-loop-v l = reset_all l.work l.nodes l.v ≡ reset_all l.initial.work l.nodes l.initial.v
