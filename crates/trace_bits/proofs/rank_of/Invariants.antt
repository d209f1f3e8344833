use Rattle.trace_bits.proofs.Ranks.{NotBefore}
use Rattle.trace_bits.proofs.rank_of.Given as goal

-- no word before this one is x
abbrev pub invariant-loop-k : goal.invariant-loop-k
invariant-loop-k l = NotBefore l.list l.x l.k
