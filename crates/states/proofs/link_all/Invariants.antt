-- The first n records are in their buckets. Assumes nothing.
use Rattle.states.proofs.Laws.{Filling}
use Rattle.states.proofs.link_all.Given as goal

abbrev pub invariant-loop-n : goal.invariant-loop-n
invariant-loop-n l = Filling l.table l.count l.fn.records l.n l.records
