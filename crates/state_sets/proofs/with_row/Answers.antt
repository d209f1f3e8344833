use Rattle.std.proofs.Common.{arith}
use Rattle.diagrams.specs.States.{state_of}
use Rattle.diagrams.proofs.Follow.{full-left}
use Rattle.state_sets.specs.Sets as S
use Rattle.state_sets.proofs.Follow.{with_none, with-edge}
use Rattle.state_sets.proofs.with_row.Goals as goal

pub bounds-table-257 : goal.bounds-table-257
bounds-table-257 c = omega (arith, c.requires.fits.room)

pub returns-in_err-x : goal.returns-in_err-x
returns-in_err-x c =
    let a = c.args in
    full-left c.row_part.new.w c.from_residual.result (S.with_row a.s.vars a.next a.r a.table.now (state_of a.w.now))
    c.from_residual.ensures.0
    (with_none a.s.vars a.next a.r a.table.now (state_of a.w.now) (state_of c.row_part.new.w) c.in_err-x.ensures)

pub returns : goal.returns
returns c =
    let a = c.args in
    with-edge a.s.vars a.next a.r a.table.now (state_of a.w.now) (state_of c.row_part.new.w) c.in_ok-x.x _ c.in_ok-x.ensures
    c.either.ensures
