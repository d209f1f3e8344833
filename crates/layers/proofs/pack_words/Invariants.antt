-- The first j words are right. Assumes nothing.
use Prim.Native.Nat.{ℕ, ◌<◌}
use lib.ListN.{get_or}
use Rattle.aiger.specs.Bits.{bit}
use Rattle.transitions.proofs.Words.{Packed}
use Rattle.layers.proofs.pack_words.Given as goal

abbrev pub invariant-loop-j : goal.invariant-loop-j
invariant-loop-j l = (i : ℕ) → i < l.j → Packed (λ w. bit w l.p) l.state i (get_or l.s i 0)
