-- `panel_lines::read_search_from` meets its contract. Assumes nothing.
use Rattle.panel_lines.proofs.Commands.{from-none, from-line, from-half, from_all}
use Rattle.panel_lines.proofs.read_search_from.Goals as goal

pub returns-in_err-b : goal.returns-in_err-b
returns-in_err-b c =
    rw c.from_residual.ensures (from-none c.args.request.now c.args.at c.in_err-b.ensures)

pub returns-in_err-t : goal.returns-in_err-t
returns-in_err-t c =
    rw c.from_residual-in_err-t.ensures (from-line c.args.request.now c.args.at c.in_ok-b.ensures c.in_err-t.ensures)

pub returns-in_err-place : goal.returns-in_err-place
returns-in_err-place c =
    rw c.from_residual-in_err-place.ensures (from-half c.args.request.now c.args.at c.in_ok-b.ensures c.in_ok-t.ensures c.in_err-place.ensures)

pub returns : goal.returns
returns c =
    from_all c.args.request.now c.args.at c.in_ok-b.ensures c.in_ok-t.ensures c.in_ok-place.place c.in_ok-place.d c.in_ok-place.ensures
