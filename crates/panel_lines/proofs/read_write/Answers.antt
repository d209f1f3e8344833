-- `panel_lines::read_write` meets its contract. Assumes nothing.
use native.Mathlib.Omega.{arith}
use Rattle.panel_lines.proofs.Commands.{write-text, write-none, write-wrong, write-form}
use Rattle.panel_lines.proofs.read_write.Goals as goal

pub returns-then-at-request : goal.returns-then-at-request
returns-then-at-request c =
    write-text c.args.request.now c.args.at (omega arith)

pub returns-in_err-part : goal.returns-in_err-part
returns-in_err-part c =
    rw c.from_residual.ensures (write-none c.args.request.now c.args.at (omega arith) c.in_err-part.ensures)

pub returns-in_err-form : goal.returns-in_err-form
returns-in_err-form c =
    rw c.from_residual-in_err-form.ensures (write-wrong c.args.request.now c.args.at (omega arith) c.in_ok-part.ensures c.in_err-form.ensures)

pub returns : goal.returns
returns c =
    write-form c.args.request.now c.args.at (omega arith) c.in_ok-part.ensures c.in_ok-form.form c.in_ok-form.ensures
