-- The first i gates are closed. Assumes nothing.
use mathlib.Core.Path.{◌≡◌}
use mathlib.Core.Bool.{true}
use Prim.Native.Nat.{◌+◌, ◌*◌}
use Rattle.aiger.specs.Lists.{every_below}
use Rattle.influence.specs.Cone.{closed_at, gate_by}
use Rattle.influence.proofs.are_closed.Given as goal

abbrev pub invariant-loop-i : goal.invariant-loop-i
invariant-loop-i l = every_below l.i (λ k. closed_at l.marks (gate_by l.m (l.at + 3 * k) l.last)) ≡ true
