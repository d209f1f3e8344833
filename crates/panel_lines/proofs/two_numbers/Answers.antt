-- `panel_lines::two_numbers` meets its contract. Assumes nothing.
use native.Mathlib.Omega.{arith}
use Rattle.panel_lines.proofs.Reading.{two_none, two-half, two-more, two-all}
use Rattle.panel_lines.proofs.two_numbers.Goals as goal

pub returns-in_err-a : goal.returns-in_err-a
returns-in_err-a c =
    rw c.from_residual.ensures (two_none c.args.request.now c.args.at c.in_err-a.ensures)

pub returns-in_err-b : goal.returns-in_err-b
returns-in_err-b c =
    rw c.from_residual-in_err-b.ensures (two-half c.args.request.now c.args.at c.in_ok-a.ensures c.in_err-b.ensures)

pub returns-then-end-request : goal.returns-then-end-request
returns-then-end-request c =
    two-more c.args.request.now c.args.at c.in_ok-a.ensures c.in_ok-b.ensures c.if-end-request.true

pub returns : goal.returns
returns c =
    two-all c.args.request.now c.args.at c.in_ok-a.ensures c.in_ok-b.ensures (omega arith)
