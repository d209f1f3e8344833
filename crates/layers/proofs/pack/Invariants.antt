-- n is the number of the latches from the i-th on. Assumes nothing.
use mathlib.Core.Path.{◌≡◌}
use Prim.Native.Nat.{◌≤◌}
use lib.ListN.{length, get_or}
use Rattle.aiger.specs.Bits.{bit}
use Rattle.transitions.proofs.Packing.{above}
use Rattle.layers.proofs.pack.Given as goal

abbrev pub invariant-loop-i : goal.invariant-loop-i
invariant-loop-i l = (l.i ≤ length l.state) × (l.n ≡ above (λ k. bit (get_or l.state k 0) l.p) (length l.state) l.i)
