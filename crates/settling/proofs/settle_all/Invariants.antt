-- The invariant of `settling::settle_all`: what is left of the trail ends as all of it does. Assumes nothing.
use Rattle.std.proofs.Common.{◌≡◌, ◌-◌}
use Rattle.settling.specs.Settling.{settled_from}
use Rattle.settling.proofs.settle_all.Given as goal

abbrev pub invariant-loop-t : goal.invariant-loop-t
invariant-loop-t l = settled_from l.work l.net l.arena l.t (l.n - l.t) ≡ settled_from l.initial.work l.net l.arena l.initial.t (l.n - l.initial.t)
