-- `lines::read_line` meets its contract: the line stands in a buffer of zeros, and its words are stored. Assumes nothing.
use Rattle.std.proofs.Common.{arith, ◌≤◌, length}
use Rattle.lines.proofs.Storing.{zeros}
use Rattle.lines.proofs.Lines.{line_read}
use Rattle.lines.proofs.read_line.Goals as goal

pub returns : goal.returns
returns c =
    let words = c.read_row.new.buf in
    let room : c.args.form.most ≤ length words = omega (arith, c.requires.most_bound, c.read_row.auto.buf) in
    line_read _ _ _ _ _ words _ _ _ _ _ _ _ room (zeros 3) c.in_ok-count.ensures.0 c.if-count-form.false c.store_words-fits.ensures
