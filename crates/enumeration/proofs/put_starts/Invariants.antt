use Rattle.std.proofs.Common.{◌≡◌, ◌+◌, ◌*◌}
use Rattle.aiger.specs.Circuit.{var}
use Rattle.layout.specs.Words.{circuit_in}
use Rattle.meaning.specs.Frame.{latch_at}
use Rattle.frames.specs.Starts.{free_before, start_bit}
use Rattle.enumeration.specs.Blocks.{Given}
use Rattle.enumeration.proofs.put_starts.Given as goal

-- the latches below j have their words, and `left` free bits remain for the others
abbrev pub invariant-loop-j : goal.invariant-loop-j
invariant-loop-j l =
    record {
      remain : l.left + free_before (circuit_in l.m) l.j ≡ l.n;
      given : Given (λ i. var (latch_at (circuit_in l.m) i).lit) (λ i p. start_bit (circuit_in l.m) l.n (l.block * 64 + p) i) l.j l.fn.values l.values;
    }
