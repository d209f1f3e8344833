use Rattle.set_table.proofs.Distinct.{NewBelow}
use Rattle.set_table.proofs.are_distinct.Given as goal

-- none of the first v words is there twice
abbrev pub invariant-loop-v : goal.invariant-loop-v
invariant-loop-v l = NewBelow l.xs l.v
