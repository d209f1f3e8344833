-- What holds at each turn of the loop of `differences::read_difference`. Assumes nothing.
use Prim.Native.Nat.{◌-◌}
use Rattle.differences.proofs.Reading.{Reading}
use Rattle.differences.proofs.read_difference.Given as goal

-- the groups before this turn's are read, and the rest of five are left
abbrev pub invariant-loop : goal.invariant-loop
invariant-loop l = Reading l.s l.at l.total l.scale (5 - l.counter) l.i
