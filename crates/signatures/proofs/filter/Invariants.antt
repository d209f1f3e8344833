-- Of the first i candidates those whose word is w are left. Assumes nothing.
use Rattle.signatures.proofs.Candidates.{SiftedUpto}
use Rattle.signatures.proofs.filter.Given as goal

abbrev pub invariant-loop-i : goal.invariant-loop-i
invariant-loop-i l = SiftedUpto l.fn.work l.work l.w l.i l.left
