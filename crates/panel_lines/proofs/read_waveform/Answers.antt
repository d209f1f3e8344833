-- `panel_lines::read_waveform` meets its contract. Assumes nothing.
use Rattle.panel_lines.proofs.Commands.{waveform-none, waveform-half, waveform-all}
use Rattle.panel_lines.proofs.read_waveform.Goals as goal

pub returns-in_err-witness : goal.returns-in_err-witness
returns-in_err-witness c =
    rw c.from_residual.ensures (waveform-none c.args.request.now c.args.at c.in_err-witness.ensures)

pub returns-in_err-only : goal.returns-in_err-only
returns-in_err-only c =
    rw c.from_residual-in_err-only.ensures (waveform-half c.args.request.now c.args.at c.in_ok-witness.ensures c.in_err-only.ensures)

pub returns : goal.returns
returns c =
    waveform-all c.args.request.now c.args.at c.in_ok-witness.ensures c.in_ok-only.only c.in_ok-only.ensures
