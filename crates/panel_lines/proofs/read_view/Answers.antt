-- `panel_lines::read_view` meets its contract. Assumes nothing.
use Rattle.panel_lines.proofs.Commands.{view-none, view-all}
use Rattle.panel_lines.proofs.read_view.Goals as goal

pub returns-in_err-witness : goal.returns-in_err-witness
returns-in_err-witness c =
    rw c.from_residual.ensures (view-none c.args.request.now c.args.at c.args.view c.in_err-witness.ensures)

pub returns : goal.returns
returns c =
    view-all c.args.request.now c.args.at c.args.view c.in_ok-witness.ensures
