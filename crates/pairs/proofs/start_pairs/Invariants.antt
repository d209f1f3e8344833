-- The heads below h are cleared. Assumes nothing.
use Rattle.pairs.proofs.Buckets.{Cleared}
use Rattle.pairs.proofs.start_pairs.Given as goal

abbrev pub invariant-loop-h : goal.invariant-loop-h
invariant-loop-h l = Cleared l.fn.work l.work l.h
