use Rattle.std.proofs.Common.{◌≡◌, drop}
use Rattle.layout.specs.Words.{circuit_in}
use Rattle.row_plans.specs.Plans.{numbered}
use Rattle.row_plans.proofs.number_latches.Given as goal

-- what is left of the latches gives what all of them give
abbrev pub invariant-loop-j : goal.invariant-loop-j
invariant-loop-j l = numbered (circuit_in l.m) (drop l.j-index l.latches) l.marks ≡ numbered (circuit_in l.m) l.latches l.initial.marks
