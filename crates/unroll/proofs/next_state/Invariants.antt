-- The first j edges are read. Assumes nothing.
use mathlib.Core.Path.{◌≡◌}
use Prim.Native.Nat.{ℕ, ◌<◌}
use lib.ListN.{get_or}
use Rattle.unroll.specs.Map.{next_word}
use Rattle.unroll.proofs.next_state.Given as goal

abbrev pub invariant-loop-j : goal.invariant-loop-j
invariant-loop-j l = (i : ℕ) → i < l.j → get_or l.state i 0 ≡ next_word l.m l.latches l.map i
