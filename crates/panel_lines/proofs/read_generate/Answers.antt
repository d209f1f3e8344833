-- `panel_lines::read_generate` meets its contract. Assumes nothing.
use Rattle.panel_lines.proofs.Commands.{generate-none, generate-seed, generate-half, generate-all}
use Rattle.panel_lines.proofs.read_generate.Goals as goal

pub returns-in_err-seed : goal.returns-in_err-seed
returns-in_err-seed c =
    rw c.from_residual.ensures (generate-none c.args.request.now c.args.at c.in_err-seed.ensures)

pub returns-in_err-i : goal.returns-in_err-i
returns-in_err-i c =
    rw c.from_residual-in_err-i.ensures (generate-seed c.args.request.now c.args.at c.in_ok-seed.ensures c.in_err-i.ensures)

pub returns-in_err-l : goal.returns-in_err-l
returns-in_err-l c =
    rw c.from_residual-in_err-l.ensures (generate-half c.args.request.now c.args.at c.in_ok-seed.ensures c.in_ok-i.ensures c.in_err-l.ensures)

pub returns : goal.returns
returns c =
    generate-all c.args.request.now c.args.at c.in_ok-seed.ensures c.in_ok-i.ensures c.in_ok-l.l c.in_ok-l.a c.in_ok-l.ensures
