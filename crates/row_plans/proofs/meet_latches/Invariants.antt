use Rattle.std.proofs.Common.{◌≡◌, drop}
use Rattle.layout.specs.Words.{circuit_in}
use Rattle.row_plans.specs.Plans.{meeting_of, met_latches}
use Rattle.row_plans.proofs.meet_latches.Given as goal

-- what is left of the latches gives what all of them give
abbrev pub invariant-loop-j : goal.invariant-loop-j
invariant-loop-j l =
    met_latches (circuit_in l.m) (drop l.j-index l.latches) (meeting_of l.marks l.list l.n)
    ≡ met_latches (circuit_in l.m) l.latches (meeting_of l.initial.marks l.initial.list l.from)
