-- The invariant of `records::clear`: what is left of the steps ends as all of them do. Assumes nothing.
use Rattle.std.proofs.Common.{◌≡◌}
use Rattle.records.specs.Steps as S
use Rattle.records.proofs.clear.Given as goal

abbrev pub invariant-loop-j : goal.invariant-loop-j
invariant-loop-j l = S.zeroed l.work l.i l.j ≡ S.zeroed l.initial.work l.i l.n
