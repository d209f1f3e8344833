-- `panel_lines::place_number` meets its contract. Assumes nothing.
use native.Mathlib.Omega.{arith}
use Rattle.panel_lines.proofs.Reading.{pair-none, pair-half, pair-more, pair-all}
use Rattle.panel_lines.proofs.place_number.Goals as goal

pub returns-in_err-a : goal.returns-in_err-a
returns-in_err-a c =
    rw c.from_residual.ensures (pair-none c.args.request.now c.args.at c.in_err-a.ensures)

pub returns-in_err-b : goal.returns-in_err-b
returns-in_err-b c =
    rw c.from_residual-in_err-b.ensures (pair-half c.args.request.now c.args.at c.in_ok-a.ensures c.in_err-b.ensures)

pub returns-then-end-request : goal.returns-then-end-request
returns-then-end-request c =
    pair-more c.args.request.now c.args.at c.in_ok-a.ensures c.in_ok-b.ensures c.if-end-request.true

pub returns : goal.returns
returns c =
    pair-all c.args.request.now c.args.at c.in_ok-a.ensures c.in_ok-b.ensures (omega arith)
