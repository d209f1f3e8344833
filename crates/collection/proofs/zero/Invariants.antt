use Rattle.std.proofs.Common.{◌≤◌}
use Rattle.collection.specs.Zeros.{Zeroed}
use Rattle.collection.proofs.zero.Given as goal

-- the words from `from` on, before i, are 0
abbrev pub invariant-loop-i : goal.invariant-loop-i
invariant-loop-i l = Zeroed l.initial.w l.w l.from l.i × (l.from ≤ l.i)
