-- What holds at each turn of the loop of `binary::read_gates`. Assumes nothing.
use Rattle.std.proofs.Common.{◌-◌}
use Rattle.binary.proofs.Differences.{Run}
use Rattle.binary.proofs.read_gates.Given as goal

-- the gates before this turn's are read and stored
abbrev pub invariant-loop : goal.invariant-loop
invariant-loop l = Run l.s l.at l.n l.v l.initial.out l.from l.out l.next l.var l.to (l.n - l.counter)
