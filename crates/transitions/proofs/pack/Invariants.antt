-- n is the number of the latches from the i-th that is kept on. Assumes nothing.
use mathlib.Core.Path.{◌≡◌}
use Prim.Native.Nat.{◌≤◌}
use lib.ListN.{length, get_or}
use Rattle.aiger.specs.Bits.{bit}
use Rattle.transitions.proofs.Packing.{above}
use Rattle.transitions.proofs.pack.Given as goal

abbrev pub invariant-loop-i : goal.invariant-loop-i
invariant-loop-i l = (l.i ≤ length l.kept) × (l.n ≡ above (λ k. bit (get_or l.state (get_or l.kept k 0) 0) l.p) (length l.kept) l.i)
