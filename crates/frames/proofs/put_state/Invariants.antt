use Rattle.std.proofs.Common.{◌+◌, ◌*◌, get_or}
use Rattle.aiger.specs.Circuit.{var}
use Rattle.layout.specs.Words.{word}
use Rattle.frames.specs.Lanes.{Stored}
use Rattle.frames.proofs.put_state.Given as goal

-- the latches below j have their words
abbrev pub invariant-loop-j : goal.invariant-loop-j
invariant-loop-j l = Stored (λ i. var (word l.m (l.latches + 3 * i))) (λ i. get_or l.state i 0) l.j l.fn.values l.values
