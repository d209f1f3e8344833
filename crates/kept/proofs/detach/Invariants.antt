-- The invariant of `kept::detach`: what is left of the nodes ends as all of them do. Assumes nothing.
use Rattle.std.proofs.Common.{◌≡◌}
use Rattle.kept.specs.Kept.{detached}
use Rattle.kept.proofs.detach.Given as goal

abbrev pub invariant-loop-v : goal.invariant-loop-v
invariant-loop-v l = detached l.work l.net l.v ≡ detached l.initial.work l.net l.initial.v
