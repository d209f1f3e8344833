-- The numbers that are given so far. Assumes nothing.
use Rattle.std.proofs.Common.{◌+◌, ◌*◌}
use Rattle.aiger.specs.Circuit.{var}
use Rattle.layout.specs.Words.{word}
use Rattle.frames.specs.Lanes.{Stored}
use Rattle.renumber.proofs.number_triples.Given as goal

abbrev pub invariant-loop-j : goal.invariant-loop-j
invariant-loop-j l = Stored (λ i. var (word l.m (l.at + 3 * i))) (λ i. l.first + i) l.j l.fn.names l.names
