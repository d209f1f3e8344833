-- The free bits before i that lead to the root have their slots, whatever root it is. Assumes nothing.
use mathlib.Core.Path.{◌≡◌}
use mathlib.Core.List.{List}
use Prim.Native.Nat.{ℕ, ◌≤◌}
use Rattle.nodes.specs.Graph.{Pair}
use Rattle.support.specs.Counting.{rank}
use Rattle.support.specs.Support.{support}
use Rattle.simulation.specs.Store.{Net, SlotsTo}
use Rattle.simulation.proofs.fill_slots.Given as goal

abbrev pub invariant-loop-i : goal.invariant-loop-i
invariant-loop-i l =
    (l.next ≤ l.i)
    × ((gs : List Pair) (root : ℕ) → Net gs root l.work l.fn.g → l.fn.r ≡ rank (support l.fn.g.free gs root) l.fn.from
    → l.next ≡ rank (support l.fn.g.free gs root) l.i)
    × (((gs : List Pair) (root : ℕ) → Net gs root l.work l.fn.g → l.fn.r ≡ rank (support l.fn.g.free gs root) l.fn.from)
    → SlotsTo l.work l.fn.g l.fn.slots l.fn.from → SlotsTo l.work l.fn.g l.slots l.i)
