-- The invariant of `records::move_nodes`: what is left of the nodes ends as all of them do. Assumes nothing.
use Rattle.std.proofs.Common.{◌≡◌, ◌-◌}
use Rattle.records.specs.Steps as S
use Rattle.records.proofs.move_nodes.Given as goal

abbrev pub invariant-loop-k : goal.invariant-loop-k
invariant-loop-k l = S.all_moved l.work l.k (l.n - l.k) ≡ S.all_moved l.initial.work 1 (l.n - 1)
