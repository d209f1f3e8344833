-- The invariant of `records::link_gates`. Assumes nothing.
use Rattle.std.proofs.Common.{◌≡◌, ◌-◌}
use Rattle.records.specs.Steps as S
use Rattle.records.proofs.link_gates.Given as goal

abbrev pub invariant-loop-g : goal.invariant-loop-g
invariant-loop-g l = S.all_linked l.work l.nodes l.first (l.g - l.first) ≡ S.all_linked l.initial.work l.nodes l.first (l.nodes - l.first)
