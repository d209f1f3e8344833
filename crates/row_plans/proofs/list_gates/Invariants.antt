use Rattle.std.proofs.Common.{get_or}
use Rattle.layout.specs.Words.{circuit_in}
use Rattle.meaning.specs.Frame.{gate_at}
use Rattle.influence.specs.Cone.{marked}
use Rattle.row_plans.specs.Plans.{Listed, listed}
use Rattle.row_plans.proofs.list_gates.Given as goal

-- the gates before place k of the order that are marked are written
abbrev pub invariant-loop-k : goal.invariant-loop-k
invariant-loop-k l =
    Listed (listed (λ j. marked l.marks (gate_at (circuit_in l.m) (get_or l.order j 0)).lit) (λ j. get_or l.order j 0) l.k) l.at
    l.initial.plan l.plan l.n
