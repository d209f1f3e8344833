-- The invariant of `analysis::expand_from`: what is left of the trail ends as all of it does. Assumes nothing.
use Rattle.std.proofs.Common.{◌≡◌}
use Rattle.analysis.specs.Analysis.{expanded_from}
use Rattle.analysis.proofs.expand_from.Given as goal

abbrev pub invariant-loop-t : goal.invariant-loop-t
invariant-loop-t l = expanded_from l.work l.net l.arena l.e l.t ≡ expanded_from l.initial.work l.net l.arena l.initial.e l.initial.t
