-- What is left is the first k gates. Assumes nothing.
use mathlib.Core.Path.{◌≡◌}
use Prim.Native.Nat.{◌+◌, ◌*◌, ◌≤◌}
use Rattle.influence.specs.Cone.{reach_down, gate_by}
use Rattle.influence.proofs.reach_down.Given as goal

abbrev pub invariant-loop-k : goal.invariant-loop-k
invariant-loop-k l =
    (l.k ≤ l.fn.n)
    × (reach_down (λ i. gate_by l.m (l.at + 3 * i) l.last) l.k l.marks ≡ reach_down (λ i. gate_by l.m (l.at + 3 * i) l.last) l.fn.n l.fn.marks)
