use Rattle.diagrams.specs.States.{state_of}
use Rattle.collection.specs.Collecting.{renamed_in}
use Rattle.collection.proofs.Turns.{Mapped}
use Rattle.collection.proofs.rename.Given as goal

-- the roots before place `at` have their new numbers
abbrev pub invariant-loop-at : goal.invariant-loop-at
invariant-loop-at l = Mapped (renamed_in (state_of l.w).nodes) l.initial.roots l.roots l.at
