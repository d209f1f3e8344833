-- The invariant of `watches::walk`: what is left of the clauses ends as all of them do. Assumes nothing.
use Rattle.std.proofs.Common.{◌≡◌, ◌-◌}
use Rattle.watches.specs.Watch.{walked}
use Rattle.watches.proofs.walk.Given as goal

abbrev pub invariant-loop : goal.invariant-loop
invariant-loop l = walked l.work l.net l.arena l.u l.f (l.n - l.counter) ≡ walked l.initial.work l.net l.arena l.initial.u l.f l.n
