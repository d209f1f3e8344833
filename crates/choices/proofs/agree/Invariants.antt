-- The invariant of `choices::agree`: what is left of the free bits ends as all of them do. Assumes nothing.
use Rattle.std.proofs.Common.{◌≡◌, ◌-◌, ◌≤◌, max}
use Rattle.choices.specs.Choices.{agreed}
use Rattle.choices.proofs.agree.Given as goal

abbrev pub invariant-loop-at : goal.invariant-loop-at
invariant-loop-at l = record {
  same : agreed l.work l.nodes l.at (l.end - l.at) ≡ agreed l.work l.nodes l.initial.at (l.end - l.initial.at);
  near : l.at ≤ max l.v l.end;
}
