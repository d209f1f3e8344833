-- What holds at each turn of the loop of `binary::read_latches`. Assumes nothing.
use Rattle.std.proofs.Common.{◌-◌}
use Rattle.binary.proofs.Latches.{Run}
use Rattle.binary.proofs.read_latches.Given as goal

-- the lines before this turn's are read and stored
abbrev pub invariant-loop : goal.invariant-loop
invariant-loop l = Run l.s l.at l.n l.v l.limit l.initial.out l.from l.out l.next l.fits l.var l.to (l.n - l.counter)
