-- `panel_lines::read_fold` meets its contract. Assumes nothing.
use Rattle.panel_lines.proofs.Commands.{fold-none, fold-all}
use Rattle.panel_lines.proofs.read_fold.Goals as goal

pub returns-in_err-b : goal.returns-in_err-b
returns-in_err-b c =
    rw c.from_residual.ensures (fold-none c.args.request.now c.args.at c.in_err-b.ensures)

pub returns : goal.returns
returns c =
    fold-all c.args.request.now c.args.at c.in_ok-b.b c.in_ok-b.t c.in_ok-b.ensures
