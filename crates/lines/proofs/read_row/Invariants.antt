-- What holds at each turn of the loop of `lines::read_row`. Assumes nothing.
use Rattle.lines.proofs.Reading.{Reading}
use Rattle.lines.proofs.read_row.Given as goal

-- a number is read and stored for each turn, and the next stands at `next`
abbrev pub invariant-loop-count : goal.invariant-loop-count
invariant-loop-count l = Reading l.s l.at l.most l.initial.buf l.buf l.count l.next
