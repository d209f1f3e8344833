-- The invariant of `analysis::descend`: what is left of the trail ends as all of it does. Assumes nothing.
use Rattle.std.proofs.Common.{◌≡◌}
use Rattle.analysis.specs.Analysis.{descended}
use Rattle.analysis.proofs.descend.Given as goal

abbrev pub invariant-loop-t : goal.invariant-loop-t
invariant-loop-t l = descended l.work l.net l.arena l.b l.level l.step l.t ≡ descended l.initial.work l.net l.arena l.initial.b l.level l.step l.initial.t
