-- Where the nodes before `first` have their values, those before k have them. Assumes nothing.
use mathlib.Core.Path.{◌≡◌}
use mathlib.Core.Bool.{Bool}
use mathlib.Core.List.{List}
use Prim.Native.Nat.{ℕ, ◌<◌}
use Rattle.nodes.specs.Graph.{Pair}
use Rattle.nodes.specs.declared.Graph.{Graph}
use Rattle.simulation.specs.Store.{Kept, Net, Simulated}
use Rattle.simulation.proofs.eval_gates.Given as goal

abbrev pub invariant-loop-k : goal.invariant-loop-k
invariant-loop-k l =
    Kept l.fn.work l.work
    × ((gs : List Pair) (root : ℕ) → Net gs root l.fn.work l.fn.g → l.fn.g.free < l.fn.first → (f : ℕ → ℕ → ℕ → Bool)
    → Simulated l.fn.g.free gs root f l.fn.work l.fn.first → Simulated l.fn.g.free gs root f l.work l.k)
