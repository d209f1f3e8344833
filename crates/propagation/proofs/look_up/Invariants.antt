-- The invariant of `propagation::look_up`: what is left of the fan-outs ends as all of them do. Assumes nothing.
use Rattle.std.proofs.Common.{◌≡◌, ◌-◌}
use Rattle.propagation.specs.Gates.{looked_up}
use Rattle.propagation.proofs.look_up.Given as goal

abbrev pub invariant-loop : goal.invariant-loop
invariant-loop l = looked_up l.work l.net l.t l.at (l.n - l.counter) ≡ looked_up l.initial.work l.net l.initial.t l.initial.at l.n
