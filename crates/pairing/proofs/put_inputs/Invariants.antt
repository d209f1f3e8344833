-- The inputs that are written so far. Assumes nothing.
use Rattle.std.proofs.Common.{◌+◌, ◌*◌}
use Rattle.renumber.specs.Names.{Put}
use Rattle.pairing.proofs.put_inputs.Given as goal

abbrev pub invariant-loop-i : goal.invariant-loop-i
invariant-loop-i l = Put 7 (λ k. 2 * (k + 1)) l.i l.fn.m l.m
