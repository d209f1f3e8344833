-- `panel_lines::read_request` meets its contract. Assumes nothing.
use native.Mathlib.Omega.{arith}
use Rattle.panel_lines.proofs.Commands.{too_long, no-user, no_word_left, no-verb, no-task, whole}
use Rattle.panel_lines.proofs.read_request.Goals as goal

pub returns-then-request-gt4096 : goal.returns-then-request-gt4096
returns-then-request-gt4096 c =
    too_long c.args.request.now (omega arith)

pub returns-in_err-user : goal.returns-in_err-user
returns-in_err-user c =
    rw c.from_residual.ensures (no-user c.args.request.now (omega arith) c.word_end-end.ensures c.in_err-user.ensures)

pub returns-in_err-part : goal.returns-in_err-part
returns-in_err-part c =
    rw c.from_residual-in_err-part.ensures (no_word_left c.args.request.now (omega arith) c.word_end-end.ensures c.in_ok-user.ensures c.in_err-part.ensures)

pub returns-in_err-verb : goal.returns-in_err-verb
returns-in_err-verb c =
    rw c.from_residual-in_err-verb.ensures (no-verb c.args.request.now (omega arith) c.word_end-end.ensures c.in_ok-user.ensures c.in_ok-part.ensures c.in_err-verb.ensures)

pub returns-in_err-task : goal.returns-in_err-task
returns-in_err-task c =
    rw c.from_residual-in_err-task.ensures (no-task c.args.request.now (omega arith) c.word_end-end.ensures c.in_ok-user.ensures c.in_ok-part.ensures c.in_ok-verb.ensures c.in_err-task.ensures)

pub returns : goal.returns
returns c =
    whole c.args.request.now (omega arith) c.word_end-end.ensures c.in_ok-user.ensures c.in_ok-part.ensures c.in_ok-verb.ensures c.in_ok-task.ensures
