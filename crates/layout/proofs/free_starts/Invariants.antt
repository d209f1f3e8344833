use Rattle.std.proofs.Common.{◌≡◌, ◌+◌}
use Rattle.aiger.specs.Frames.{free_starts}
use Rattle.layout.specs.Words.{circuit_in}
use Rattle.layout.proofs.Starts.{free_from}
use Rattle.layout.proofs.free_starts.Given as goal

-- those counted, with those from latch j on, are all
abbrev pub invariant-loop-j : goal.invariant-loop-j
invariant-loop-j l = l.free + free_from l.m l.j ≡ free_starts (circuit_in l.m)
