-- The rows agree with row p in the first words. Assumes nothing.
use mathlib.Core.Path.{◌≡◌}
use mathlib.Core.Bool.{true}
use Prim.Native.Nat.{ℕ, ◌<◌}
use lib.ListN.{get_or}
use Rattle.aiger.specs.Bits.{bit}
use Rattle.layers.proofs.same_rows.Given as goal

abbrev pub invariant-loop-w : goal.invariant-loop-w
invariant-loop-w l =
    ((q : ℕ) → q < 64 → bit l.same q ≡ true → (k : ℕ) → k < l.w-index → bit (get_or l.state k 0) q ≡ bit (get_or l.state k 0) l.p)
    × (bit l.same l.p ≡ true)
