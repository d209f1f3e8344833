-- The invariant of `floor::test_clause`: what is left of the clause is judged as all of it. Assumes nothing.
use Rattle.std.proofs.Common.{◌≡◌}
use Rattle.floor.specs.Place.{judged}
use Rattle.floor.proofs.test_clause.Given as goal

abbrev pub invariant-loop-i : goal.invariant-loop-i
invariant-loop-i l = judged l.work l.net l.arena l.i l.top ≡ judged l.work l.net l.arena l.initial.i l.initial.top
