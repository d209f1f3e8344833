-- `panel_lines::read_search` meets its contract. Assumes nothing.
use Rattle.panel_lines.proofs.Commands.{search-none, search-half, search-all}
use Rattle.panel_lines.proofs.read_search.Goals as goal

pub returns-in_err-b : goal.returns-in_err-b
returns-in_err-b c =
    rw c.from_residual.ensures (search-none c.args.request.now c.args.at c.in_err-b.ensures)

pub returns-in_err-k : goal.returns-in_err-k
returns-in_err-k c =
    rw c.from_residual-in_err-k.ensures (search-half c.args.request.now c.args.at c.in_ok-b.ensures c.in_err-k.ensures)

pub returns : goal.returns
returns c =
    search-all c.args.request.now c.args.at c.in_ok-b.ensures c.in_ok-k.k c.in_ok-k.d c.in_ok-k.ensures
