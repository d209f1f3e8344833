use Rattle.std.proofs.Common.{◌≡◌, ℕ, ◌<◌, get_or}
use Rattle.aiger.specs.Bits.{nonzero}
use Rattle.aiger.specs.Frames.{free_bit}
use Rattle.enumeration.proofs.put_free.Given as goal

-- the free bits below j are written
abbrev pub invariant-loop-j : goal.invariant-loop-j
invariant-loop-j l = (i : ℕ) → i < l.j → nonzero (get_or l.free i 0) ≡ free_bit l.n l.x i
