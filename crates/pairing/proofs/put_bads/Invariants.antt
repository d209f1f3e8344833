-- The bad lines that are written so far. Assumes nothing.
use Rattle.std.proofs.Common.{◌+◌, ◌*◌}
use Rattle.renumber.specs.Names.{Put}
use Rattle.pairing.proofs.put_bads.Given as goal

abbrev pub invariant-loop-j : goal.invariant-loop-j
invariant-loop-j l = Put l.to (λ k. 2 * (l.v.0 + 3 * k + 2) + 1) l.j l.fn.m l.m
