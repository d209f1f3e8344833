-- The first h buckets are empty, and the other words are the same. Assumes nothing.
use mathlib.Core.Path.{◌≡◌}
use Prim.Native.Nat.{ℕ, ◌*◌, ◌<◌}
use lib.ListN.{get_or}
use Rattle.states.proofs.clear.Given as goal

abbrev pub invariant-loop-h : goal.invariant-loop-h
invariant-loop-h l =
    ((g : ℕ) → g < l.h → get_or l.records (l.stride * g) 0 ≡ 0)
    × ((j : ℕ) → ((g : ℕ) → j ≡ l.stride * g → ⊥) → get_or l.records j 0 ≡ get_or l.fn.records j 0)
