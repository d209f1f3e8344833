-- The invariant of `floor::evaluate`: what is left of the nodes ends as all of them do. Assumes nothing.
use Rattle.std.proofs.Common.{◌≡◌, ◌-◌}
use Rattle.floor.specs.Place.{evaluated}
use Rattle.floor.proofs.evaluate.Given as goal

abbrev pub invariant-loop-v : goal.invariant-loop-v
invariant-loop-v l = evaluated l.work l.net l.v (l.n - l.v) ≡ evaluated l.initial.work l.net 0 l.n
