use Rattle.std.proofs.Common.{◌<◌, length}
use Rattle.layout.specs.Words.{word, circuit_in}
use Rattle.enumeration.proofs.Blocks.{Valued, Left, Remaining}
use Rattle.enumeration.proofs.block_hits.Given as goal

-- the words are the values of the frames so far, and `left` tells the runs that they allow
abbrev pub invariant-loop : goal.invariant-loop
invariant-loop l =
    record {
      room : word l.m 0 < length l.values;
      remain : Remaining (circuit_in l.m) l.t l.counter l.top;
      valued : Valued (circuit_in l.m) l.t l.block l.counter l.values;
      allowed : Left (circuit_in l.m) l.t l.block l.counter l.left;
    }
