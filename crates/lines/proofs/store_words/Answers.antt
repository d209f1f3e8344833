-- `lines::store_words` meets its contract: each turn of its loop stores one word. Assumes nothing.
use Rattle.lines.proofs.Storing.{more}
use Rattle.lines.proofs.store_words.Goals as goal

pub loop-k-preserved : goal.loop-k-preserved
loop-k-preserved c =
    rw c.from-wide.ensures
    (more _ _ _ _ _ _ _ _ c.loop-k.invariant _ c.loop-k-test.true c.requires.most_in_bounds c.narrow.ensures)
