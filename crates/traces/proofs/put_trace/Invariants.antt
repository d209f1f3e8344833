-- The first j free bits are written. Assumes nothing.
use mathlib.Core.Path.{◌≡◌}
use Prim.Native.Nat.{ℕ, suc, ◌+◌, ◌*◌, ◌^◌, ◌<◌}
use lib.ListN.{get_or}
use Rattle.aiger.specs.Bits.{nonzero}
use Rattle.aiger.specs.Frames.{free_bit}
use Rattle.traces.specs.Digits.{Digits}
use Rattle.traces.proofs.put_trace.Given as goal

abbrev pub invariant-loop-j : goal.invariant-loop-j
invariant-loop-j l =
    (t x : ℕ) → Digits (2 ^ l.width) l.trace (suc t) x → l.fn.n ≡ l.free + l.width * (t + 1) → (k : ℕ) → k < l.j → nonzero (get_or l.work k 0) ≡ free_bit l.fn.n x k
