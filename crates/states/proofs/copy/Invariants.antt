-- The first i words are written, and the others are the same. Assumes nothing.
use mathlib.Core.Path.{◌≡◌}
use Prim.Native.Nat.{ℕ, ◌+◌, ◌<◌, ◌≤◌}
use lib.ListN.{get_or}
use Rattle.states.proofs.copy.Given as goal

abbrev pub invariant-loop-i : goal.invariant-loop-i
invariant-loop-i l =
    ((j : ℕ) → j < l.i → get_or l.records (l.at + j) 0 ≡ get_or l.s j 0)
    × ((j : ℕ) → j < l.at → get_or l.records j 0 ≡ get_or l.fn.records j 0)
    × ((j : ℕ) → l.at + l.i ≤ j → get_or l.records j 0 ≡ get_or l.fn.records j 0)
