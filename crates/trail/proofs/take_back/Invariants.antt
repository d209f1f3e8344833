-- The invariant of `trail::take_back`: what is left of the trail ends as all of it does. Assumes nothing.
use Rattle.std.proofs.Common.{◌≡◌}
use Rattle.trail.specs.Trail.{taken_back}
use Rattle.memory.specs.Record as M
use Rattle.trail.proofs.take_back.Given as goal

abbrev pub invariant-loop-t : goal.invariant-loop-t
invariant-loop-t l = taken_back l.work l.nodes l.to l.t ≡ taken_back l.initial.work l.nodes l.to l.initial.t
