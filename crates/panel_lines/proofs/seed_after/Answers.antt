-- `panel_lines::seed_after` meets its contract. Assumes nothing.
use Rattle.panel_lines.proofs.Reading.{seedless, no-seed, a-seed}
use Rattle.panel_lines.proofs.seed_after.Goals as goal

pub returns-in_err-from : goal.returns-in_err-from
returns-in_err-from c =
    rw c.from_residual.ensures (seedless c.args.request.now c.args.at c.in_err-from.ensures)

pub returns-in_err-n : goal.returns-in_err-n
returns-in_err-n c =
    rw c.from_residual-in_err-n.ensures (no-seed c.args.request.now c.args.at c.in_ok-from.ensures c.in_err-n.ensures)

pub returns : goal.returns
returns c =
    a-seed c.args.request.now c.args.at c.in_ok-from.ensures c.in_ok-n.ensures
