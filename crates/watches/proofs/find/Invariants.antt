-- The invariant of `watches::find`: what is left of the clause is searched as all of it. Assumes nothing.
use Rattle.std.proofs.Common.{◌≡◌}
use Rattle.std.specs.Prelude.{Some}
use Rattle.watches.specs.Watch.{found}
use Rattle.watches.proofs.find.Given as goal

abbrev pub invariant-loop-i : goal.invariant-loop-i
invariant-loop-i l = found l.work l.net l.c l.o l.i ≡ found l.work l.net l.c l.o l.initial.i
