-- The first n words are those of the first j latches that are kept. Assumes nothing.
use mathlib.Core.Bool.{◌||◌}
use Rattle.layout.specs.Words.{circuit_in}
use Rattle.meaning.specs.Frame.{latch_at}
use Rattle.influence.specs.Cone.{marked}
use Rattle.influence.proofs.Kept.{Listing}
use Rattle.influence.proofs.keep.Given as goal

abbrev pub invariant-loop-j : goal.invariant-loop-j
invariant-loop-j l = Listing (λ k. l.all || marked l.marks (latch_at (circuit_in l.m) k).lit) l.j l.fn.kept l.n l.kept
