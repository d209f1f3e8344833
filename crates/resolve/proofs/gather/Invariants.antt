-- The invariant of `resolve::gather`: what is left to join ends as all of it does. Assumes nothing.
use Rattle.std.proofs.Common.{◌≡◌}
use Rattle.resolve.specs.Draft.{gathered}
use Rattle.resolve.proofs.gather.Given as goal

abbrev pub invariant-loop-i : goal.invariant-loop-i
invariant-loop-i l = gathered l.work l.net l.arena l.e l.r l.x l.i ≡ gathered l.initial.work l.net l.arena l.initial.e l.r l.x l.initial.i
