-- The invariant of `settling::propagate`: what is left of the trail ends as all of it does. Assumes nothing.
use Rattle.std.proofs.Common.{◌≡◌, ◌-◌}
use Rattle.settling.specs.Settling.{propagated}
use Rattle.settling.proofs.propagate.Given as goal

abbrev pub invariant-loop : goal.invariant-loop
invariant-loop l = propagated l.work l.net l.arena l.t (l.n - l.counter) ≡ propagated l.initial.work l.net l.arena l.initial.t l.n
