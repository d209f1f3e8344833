-- No gate before k uses such a free bit. Assumes nothing.
use Prim.Native.Nat.{ℕ, ◌<◌}
use Rattle.simulation.specs.Store.{Unused}
use Rattle.simulation.proofs.first_use.Given as goal

abbrev pub invariant-loop-k : goal.invariant-loop-k
invariant-loop-k l = (v : ℕ) → l.free < v → v < l.k → Unused l.work v l.low l.free
