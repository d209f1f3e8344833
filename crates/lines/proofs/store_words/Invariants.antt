-- What holds at each turn of the loop of `lines::store_words`. Assumes nothing.
use Rattle.lines.proofs.Storing.{Storing}
use Rattle.lines.proofs.store_words.Given as goal

-- the words before this turn's are tested and stored
abbrev pub invariant-loop-k : goal.invariant-loop-k
invariant-loop-k l = Storing l.words l.most l.limit l.initial.out l.from l.out l.fits l.k
