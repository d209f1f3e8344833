-- The constant and the first j free bits have their signatures. Assumes nothing.
use Prim.Native.Nat.{◌+◌}
use Rattle.signatures.proofs.Stores.{SignedUpto}
use Rattle.signatures.proofs.start_signatures.Given as goal

abbrev pub invariant-loop-j : goal.invariant-loop-j
invariant-loop-j l = SignedUpto l.fn.work l.work l.free l.room (l.j + 1)
