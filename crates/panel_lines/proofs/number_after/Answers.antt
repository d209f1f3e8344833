-- `panel_lines::number_after` meets its contract. Assumes nothing.
use Rattle.panel_lines.proofs.Reading.{wordless, no_number, a-number}
use Rattle.panel_lines.proofs.number_after.Goals as goal

pub returns-in_err-from : goal.returns-in_err-from
returns-in_err-from c =
    rw c.from_residual.ensures (wordless c.args.request.now c.args.at c.in_err-from.ensures)

pub returns-in_err-n : goal.returns-in_err-n
returns-in_err-n c =
    rw c.from_residual-in_err-n.ensures (no_number c.args.request.now c.args.at c.in_ok-from.ensures c.in_err-n.ensures)

pub returns : goal.returns
returns c =
    a-number c.args.request.now c.args.at c.in_ok-from.ensures c.in_ok-n.ensures
