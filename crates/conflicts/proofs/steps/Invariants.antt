-- The invariant of `conflicts::steps`: what is left of the effort ends as all of it does. Assumes nothing.
use Rattle.std.proofs.Common.{◌≡◌, ◌-◌}
use Rattle.conflicts.specs.Conflicts.{steps}
use Rattle.learning.specs.declared.Search.{Search}
use Rattle.conflicts.proofs.steps.Given as goal

abbrev pub invariant-loop : goal.invariant-loop
invariant-loop l = steps l.work l.net l.u l.effort (l.effort - l.counter) ≡ steps l.initial.work l.net l.initial.u l.effort l.effort
