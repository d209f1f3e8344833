-- The words that are written so far. Assumes nothing.
use Rattle.std.proofs.Common.{◌+◌}
use Rattle.layout.specs.Words.{word}
use Rattle.renumber.specs.Names.{Put, under}
use Rattle.renumber.proofs.rename_words.Given as goal

abbrev pub invariant-loop-j : goal.invariant-loop-j
invariant-loop-j l = Put l.to (λ i. under l.names (word l.from (l.at + i))) l.j l.fn.m l.m
