-- `panel_lines::read_load` meets its contract. Assumes nothing.
use Rattle.panel_lines.proofs.Commands.{load-none, load-all}
use Rattle.panel_lines.proofs.read_load.Goals as goal

pub returns-in_err-file : goal.returns-in_err-file
returns-in_err-file c =
    rw c.from_residual.ensures (load-none c.args.request.now c.args.at c.in_err-file.ensures)

pub returns : goal.returns
returns c =
    load-all c.args.request.now c.args.at c.in_ok-file.ensures
