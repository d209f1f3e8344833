-- `panel_lines::read_join` meets its contract. Assumes nothing.
use Rattle.panel_lines.proofs.Commands.{join-none, join-half, join-all}
use Rattle.panel_lines.proofs.read_join.Goals as goal

pub returns-in_err-old : goal.returns-in_err-old
returns-in_err-old c =
    rw c.from_residual.ensures (join-none c.args.request.now c.args.at c.in_err-old.ensures)

pub returns-in_err-new : goal.returns-in_err-new
returns-in_err-new c =
    rw c.from_residual-in_err-new.ensures (join-half c.args.request.now c.args.at c.in_ok-old.ensures c.in_err-new.ensures)

pub returns : goal.returns
returns c =
    join-all c.args.request.now c.args.at c.in_ok-old.ensures c.in_ok-new.ensures
