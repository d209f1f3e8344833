use Rattle.layout.specs.Words.{circuit_in}
use Rattle.meaning.specs.Frame.{input_at}
use Rattle.influence.specs.Cone.{marked, kept_below}
use Rattle.row_plans.specs.Plans.{Listed}
use Rattle.row_plans.proofs.list_inputs.Given as goal

-- the inputs before i that are marked are written
abbrev pub invariant-loop-i : goal.invariant-loop-i
invariant-loop-i l = Listed (kept_below (λ j. marked l.marks (input_at (circuit_in l.m) j)) l.i) l.at l.initial.plan l.plan l.n
