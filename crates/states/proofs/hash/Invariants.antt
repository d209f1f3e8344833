-- h is the hash of the words from i on. Assumes nothing.
use mathlib.Core.Path.{◌≡◌}
use Prim.Native.Nat.{◌-◌, ◌≤◌}
use lib.ListN.{length}
use Rattle.states.specs.Number.{number_at, hashed}
use Rattle.states.proofs.hash.Given as goal

abbrev pub invariant-loop-i : goal.invariant-loop-i
invariant-loop-i l = (l.i ≤ length l.s) × (l.h ≡ hashed (length l.s - l.i) (number_at l.s l.i (length l.s - l.i)))
