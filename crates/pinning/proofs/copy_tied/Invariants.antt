-- The words that are copied so far. Assumes nothing.
use Rattle.std.proofs.Common.{get_or}
use Rattle.aiger.specs.Circuit.{var}
use Rattle.pins.specs.Pins.{constant_of}
use Rattle.pinning.proofs.Stores.{Copying}
use Rattle.pinning.proofs.copy_tied.Given as goal

abbrev pub invariant-loop-j : goal.invariant-loop-j
invariant-loop-j l = Copying (λ w. constant_of (get_or l.table (var w) 2) w) l.m l.from l.n l.at l.fn.words l.words l.j
