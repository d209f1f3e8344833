-- The first h buckets are empty. Assumes nothing.
use Rattle.signatures.proofs.Buckets.{ClearedUpto}
use Rattle.signatures.proofs.clear_heads.Given as goal

abbrev pub invariant-loop-h : goal.invariant-loop-h
invariant-loop-h l = ClearedUpto l.fn.work l.work l.room l.h
