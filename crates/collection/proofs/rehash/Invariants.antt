use Rattle.std.proofs.Common.{◌≡◌}
use Rattle.diagrams.specs.States.{state_of}
use Rattle.collection.specs.Collecting.{rehashed}
use Rattle.collection.proofs.rehash.Given as goal

-- the nodes from 1 to j are in their hash lists
abbrev pub invariant-loop-j : goal.invariant-loop-j
invariant-loop-j l = state_of l.w ≡ rehashed l.j (state_of l.initial.w)
