-- The invariant of `floor::raise`: what is left of the free bits ends as all of them do. Assumes nothing.
use Rattle.std.proofs.Common.{◌≡◌}
use Rattle.floor.specs.Place.{raised}
use Rattle.floor.proofs.raise.Given as goal

abbrev pub invariant-loop-k : goal.invariant-loop-k
invariant-loop-k l = raised l.work l.nodes l.m l.k ≡ raised l.initial.work l.nodes l.m l.initial.k
