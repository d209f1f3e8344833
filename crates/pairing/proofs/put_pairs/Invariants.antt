-- The gates of the pairs that are written so far. Assumes nothing.
use Rattle.std.proofs.Common.{◌+◌, ◌*◌}
use Rattle.layout.specs.Words.{word}
use Rattle.renumber.specs.Names.{Put, under}
use Rattle.pairing.specs.Words.{pairs_word}
use Rattle.pairing.proofs.put_pairs.Given as goal

abbrev pub invariant-loop-j : goal.invariant-loop-j
invariant-loop-j l =
    Put l.to (pairs_word l.v.0 (λ i. under l.first (word l.a (l.p.outputs + i))) (λ i. under l.second (word l.b (l.q.outputs + i)))) (9 * l.j) l.fn.m l.m
