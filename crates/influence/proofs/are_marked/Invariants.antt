-- The first i literals are marked. Assumes nothing.
use mathlib.Core.Path.{◌≡◌}
use mathlib.Core.Bool.{true}
use Prim.Native.Nat.{◌+◌}
use Rattle.aiger.specs.Lists.{every_below}
use Rattle.layout.specs.Words.{word}
use Rattle.influence.specs.Cone.{marked}
use Rattle.influence.proofs.are_marked.Given as goal

abbrev pub invariant-loop-i : goal.invariant-loop-i
invariant-loop-i l = every_below l.i (λ k. marked l.marks (word l.m (l.at + k))) ≡ true
