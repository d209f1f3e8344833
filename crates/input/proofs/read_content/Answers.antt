-- The first read of a content that is empty, and each read more, leave a content that is gathered. Assumes nothing.
use Rattle.input.proofs.Contents.{nothing-within, nothing-reads, first-gathers, grow-gathers}
use Rattle.input.proofs.read_content.Goals as goal

pub advance-got-requires : goal.advance-got-requires
advance-got-requires g c = (nothing-within c.unread.ensures, nothing-reads c.unread.ensures)

pub loop-got-init : goal.loop-got-init
loop-got-init g c = first-gathers c.unread.ensures c.advance-got.ensures

pub loop-got-preserved : goal.loop-got-preserved
loop-got-preserved g c =
    grow-gathers c.loop-got.invariant c.content_of.ensures (c.goes_on.ensures.more c.loop-got-test.true).0 c.advance-got-in-loop-got.ensures
