use Rattle.std.proofs.Common.{◌≡◌, ℕ, ◌<◌, get_or}
use Rattle.aiger.specs.Bits.{nonzero}
use Rattle.set_attempt.specs.Bits.{free_value}
use Rattle.trace_bits.proofs.put_bits.Given as goal

-- the free bits below j are written
abbrev pub invariant-loop-j : goal.invariant-loop-j
invariant-loop-j l = (k : ℕ) → k < l.j → nonzero (get_or l.work k 0) ≡ free_value l.frees l.bits l.inputs l.trace l.width k
