-- `panel_lines::read_flag` meets its contract. Assumes nothing.
use mathlib.Core.Path.{sym, ◌∙◌}
use native.Mathlib.Omega.{arith}
use Rattle.panel_lines.proofs.Commands.{flag-unset, flag-none, flag-given, flag-other}
use Rattle.panel_lines.proofs.read_flag.Goals as goal

pub returns-then-at-request : goal.returns-then-at-request
returns-then-at-request c =
    flag-unset c.args.request.now c.args.at c.args.word.now (omega arith)

pub returns-in_err-given : goal.returns-in_err-given
returns-in_err-given c =
    rw c.from_residual.ensures (flag-none c.args.request.now c.args.at c.args.word.now (omega arith) c.in_err-given.ensures)

pub returns-then-is_word : goal.returns-then-is_word
returns-then-is_word c =
    flag-given c.args.request.now c.args.at c.args.word.now (omega arith) c.in_ok-given.ensures (sym c.if-is_word.true ∙ c.is_word.ensures)

pub returns : goal.returns
returns c =
    flag-other c.args.request.now c.args.at c.args.word.now (omega arith) c.in_ok-given.ensures (sym c.if-is_word.false ∙ c.is_word.ensures)
