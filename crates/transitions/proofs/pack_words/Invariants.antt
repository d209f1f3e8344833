-- The first j words are right. Assumes nothing.
use Prim.Native.Nat.{ℕ, ◌<◌}
use lib.ListN.{get_or}
use Rattle.aiger.specs.Bits.{bit}
use Rattle.transitions.proofs.Words.{Packed}
use Rattle.transitions.proofs.pack_words.Given as goal

abbrev pub invariant-loop-j : goal.invariant-loop-j
invariant-loop-j l = (i : ℕ) → i < l.j → Packed (λ k. bit (get_or l.state k 0) 0) l.kept i (get_or l.s i 0)
