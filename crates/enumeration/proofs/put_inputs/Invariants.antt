use Rattle.std.proofs.Common.{◌+◌, ◌*◌}
use Rattle.aiger.specs.Circuit.{var}
use Rattle.aiger.specs.Frames.{free_bit}
use Rattle.layout.specs.Words.{circuit_in}
use Rattle.meaning.specs.Frame.{input_at}
use Rattle.enumeration.specs.Blocks.{Given}
use Rattle.enumeration.proofs.put_inputs.Given as goal

-- the inputs below i have their words
abbrev pub invariant-loop-i : goal.invariant-loop-i
invariant-loop-i l = Given (λ k. var (input_at (circuit_in l.m) k)) (λ k p. free_bit l.top (l.block * 64 + p) k) l.i l.fn.values l.values
