-- The invariant of `records::set_gates`: what is left of the steps ends as all of them do. Assumes nothing.
use Rattle.std.proofs.Common.{◌≡◌, ◌-◌}
use Rattle.records.specs.Steps as S
use Rattle.records.proofs.set_gates.Given as goal

abbrev pub invariant-loop-k : goal.invariant-loop-k
invariant-loop-k l = S.gates_set l.work l.first (l.k - l.first) ≡ S.gates_set l.initial.work l.first (l.n - l.first)
