-- `panel_lines::place_after` meets its contract. Assumes nothing.
use Rattle.panel_lines.proofs.Reading.{placeless, no_place, a-place}
use Rattle.panel_lines.proofs.place_after.Goals as goal

pub returns-in_err-from : goal.returns-in_err-from
returns-in_err-from c =
    rw c.from_residual.ensures (placeless c.args.request.now c.args.at c.in_err-from.ensures)

pub returns-in_err-n : goal.returns-in_err-n
returns-in_err-n c =
    rw c.from_residual-in_err-n.ensures (no_place c.args.request.now c.args.at c.in_ok-from.ensures c.in_err-n.ensures)

pub returns : goal.returns
returns c =
    a-place c.args.request.now c.args.at c.in_ok-from.ensures c.in_ok-n.ensures
