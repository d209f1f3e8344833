-- The invariant of `records::set_leaves`: what is left of the steps ends as all of them do. Assumes nothing.
use Rattle.std.proofs.Common.{◌≡◌}
use Rattle.records.specs.Steps as S
use Rattle.records.proofs.set_leaves.Given as goal

abbrev pub invariant-loop-k : goal.invariant-loop-k
invariant-loop-k l = S.leaves_set l.work l.k ≡ S.leaves_set l.initial.work l.n
