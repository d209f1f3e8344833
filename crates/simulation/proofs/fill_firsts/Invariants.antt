-- The slots before k have their nodes. Assumes nothing.
use Prim.Native.Nat.{◌+◌, ◌≤◌}
use Rattle.simulation.specs.Store.{Firsts}
use Rattle.simulation.proofs.fill_firsts.Given as goal

abbrev pub invariant-loop-k : goal.invariant-loop-k
invariant-loop-k l = (l.g.free + 1 ≤ l.end) × (l.end ≤ l.g.nodes) × Firsts l.work l.g l.slots l.k l.firsts
