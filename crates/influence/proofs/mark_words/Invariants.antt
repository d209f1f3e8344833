-- The first i literals are marked. Assumes nothing.
use mathlib.Core.Path.{◌≡◌}
use Prim.Native.Nat.{◌+◌}
use Rattle.layout.specs.Words.{word}
use Rattle.influence.specs.Cone.{mark_below}
use Rattle.influence.proofs.mark_words.Given as goal

abbrev pub invariant-loop-i : goal.invariant-loop-i
invariant-loop-i l = l.marks ≡ mark_below (λ k. word l.m (l.at + k)) l.i l.fn.marks
