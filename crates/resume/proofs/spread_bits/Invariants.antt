use Rattle.resume.proofs.Turns.{Spreading}
use Rattle.resume.proofs.spread_bits.Given as goal

-- the bits from u on are done
abbrev pub invariant-loop-u : goal.invariant-loop-u
invariant-loop-u l = Spreading l.work l.y l.free l.fn.bits l.bits l.r l.u
