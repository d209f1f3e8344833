-- `panel_lines::read_preview` meets its contract. Assumes nothing.
use Rattle.panel_lines.proofs.Commands.{preview-none, preview-all}
use Rattle.panel_lines.proofs.read_preview.Goals as goal

pub returns-in_err-file : goal.returns-in_err-file
returns-in_err-file c =
    rw c.from_residual.ensures (preview-none c.args.request.now c.args.at c.in_err-file.ensures)

pub returns : goal.returns
returns c =
    preview-all c.args.request.now c.args.at c.in_ok-file.ensures
