-- The invariant of `analysis::touch_all`: what is left to touch ends as all of it does. Assumes nothing.
use Rattle.std.proofs.Common.{◌≡◌}
use Rattle.analysis.specs.Analysis.{touched_all}
use Rattle.analysis.proofs.touch_all.Given as goal

abbrev pub invariant-loop-i : goal.invariant-loop-i
invariant-loop-i l = touched_all l.work l.net l.arena l.from l.level l.step l.i l.n ≡ touched_all l.initial.work l.net l.arena l.from l.level l.step l.initial.i l.initial.n
