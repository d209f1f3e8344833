-- `panel_lines::one_name` meets its contract. Assumes nothing.
use native.Mathlib.Omega.{arith}
use Rattle.panel_lines.proofs.Reading.{name-none, name-more, name-all}
use Rattle.panel_lines.proofs.one_name.Goals as goal

pub returns-in_err-name : goal.returns-in_err-name
returns-in_err-name c =
    rw c.from_residual.ensures (name-none c.args.request.now c.args.at c.in_err-name.ensures)

pub returns-then-name-request : goal.returns-then-name-request
returns-then-name-request c =
    name-more c.args.request.now c.args.at c.in_ok-name.ensures c.if-name-request.true

pub returns : goal.returns
returns c =
    name-all c.args.request.now c.args.at c.in_ok-name.ensures (omega arith)
