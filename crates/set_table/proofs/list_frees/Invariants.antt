use Rattle.aiger.specs.Frames.{is_free}
use Rattle.layout.specs.Words.{circuit_in}
use Rattle.meaning.specs.Frame.{latch_at}
use Rattle.transitions.specs.Transitions.{rank_in}
use Rattle.set_table.proofs.Frees.{Ranked}
use Rattle.set_table.proofs.list_frees.Given as goal

-- the first n words are the variables of the free ones among the first j latches
abbrev pub invariant-loop-j : goal.invariant-loop-j
invariant-loop-j l = Ranked (rank_in l.latches) (λ i. is_free (latch_at (circuit_in l.m) i)) l.j l.n l.initial.frees l.frees
