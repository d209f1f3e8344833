-- `panel_lines::read_pin` meets its contract. Assumes nothing.
use Rattle.panel_lines.proofs.Commands.{pin-none, pin-all}
use Rattle.panel_lines.proofs.read_pin.Goals as goal

pub returns-in_err-input : goal.returns-in_err-input
returns-in_err-input c =
    rw c.from_residual.ensures (pin-none c.args.request.now c.args.at c.in_err-input.ensures)

pub returns : goal.returns
returns c =
    pin-all c.args.request.now c.args.at c.in_ok-input.input c.in_ok-input.value c.in_ok-input.ensures
