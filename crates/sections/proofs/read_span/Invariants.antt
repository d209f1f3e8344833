-- What holds at each turn of the loop of `sections::read_span`. Assumes nothing.
use Rattle.sections.proofs.Spans.{Reached}
use Rattle.sections.proofs.read_span.Given as goal

-- the sections before section k are read
abbrev pub invariant-loop-k : goal.invariant-loop-k
invariant-loop-k l = Reached l.s l.at l.p l.first l.end l.limit l.initial.words l.k l.next l.fits l.words
