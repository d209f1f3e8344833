-- The invariant of `learning::highest`: what is left of the clause ends as all of it does. Assumes nothing.
use Rattle.std.proofs.Common.{◌≡◌}
use Rattle.learning.specs.Learning.{ranked_all}
use Rattle.learning.proofs.highest.Given as goal

abbrev pub invariant-loop-i : goal.invariant-loop-i
invariant-loop-i l = ranked_all l.work l.net l.arena l.i l.best ≡ ranked_all l.work l.net l.arena l.initial.i l.initial.best
