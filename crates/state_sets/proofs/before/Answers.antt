use Rattle.std.proofs.Common.{◌≡◌, refl, ◌+◌, length, arith}
use Rattle.diagrams.specs.States.{state_of}
use Rattle.diagrams.proofs.Follow.{full-left}
use Rattle.state_sets.specs.Sets as S
use Rattle.state_sets.proofs.Room.{row_fits, row_low}
use Rattle.state_sets.proofs.Follow.{before-none, before-out, before-edge}
use Rattle.state_sets.proofs.before.Goals as goal

pub row_at-from-requires : goal.row_at-from-requires
row_at-from-requires c = (c.requires.fits.vars, omega (arith, c.requires.fits.rows, c.requires.last_bound))

pub overflow_add-to : goal.overflow_add-to
overflow_add-to c =
    let a = c.args in
    omega (arith, c.row_at-from.ensures, row_low a.s (length a.table.now) a.r c.requires.fits (omega (arith, c.requires.last_bound)), c.requires.fits.vars)

pub offset_bounds-table-last : goal.offset_bounds-table-last
offset_bounds-table-last c = omega (arith, c.requires.last_bound)

pub bounds-table-last : goal.bounds-table-last
bounds-table-last c =
    let a = c.args in
    omega (arith, c.requires.last_bound, row_fits a.s (length a.table.now) a.r c.requires.fits c.requires.last_bound.1, c.requires.fits.room)

pub offset_bounds-table-to : goal.offset_bounds-table-to
offset_bounds-table-to c =
    let a = c.args in
    omega (arith, c.row_at-from.ensures, row_low a.s (length a.table.now) a.r c.requires.fits (omega (arith, c.requires.last_bound)), c.requires.fits.vars)

pub bounds-table-to : goal.bounds-table-to
bounds-table-to c =
    let a = c.args in
    omega (arith, c.row_at-from.ensures, row_fits a.s (length a.table.now) a.r c.requires.fits c.requires.last_bound.1)

pub bounds-table-256 : goal.bounds-table-256
bounds-table-256 c = omega (arith, c.requires.fits.room)

pub offset_bounds-table-from : goal.offset_bounds-table-from
offset_bounds-table-from c =
    let a = c.args in
    omega (arith, c.row_at-from.ensures, row_low a.s (length a.table.now) a.r c.requires.fits (omega (arith, c.requires.last_bound)))

pub slice_bounds-substituted-end : goal.slice_bounds-substituted-end
slice_bounds-substituted-end c =
    let a = c.args in
    omega (arith, c.row_at-from.ensures, row_fits a.s (length a.table.now) a.r c.requires.fits c.requires.last_bound.1)

pub overflow_cast-r : goal.overflow_cast-r
overflow_cast-r c = omega (arith, c.requires.fits.rows, c.requires.last_bound)

pub returns-in_err-x : goal.returns-in_err-x
returns-in_err-x c =
    let a = c.args in
    full-left c.substituted.new.w c.from_residual.result (S.before a.s.vars a.last a.r a.table.now (state_of a.w.now))
    c.from_residual.ensures.0
    (before-none a.s.vars a.last a.r a.table.now (state_of a.w.now) c.row_at-from.result (c.row_at-from.result + a.s.vars)
    c.flip-others.result c.row_at-from.ensures refl c.flip-others.ensures (state_of c.substituted.new.w) c.in_err-x.ensures)

pub returns-in_err-y : goal.returns-in_err-y
returns-in_err-y c =
    let a = c.args in
    full-left c.both.new.w c.from_residual-in_err-y.result (S.before a.s.vars a.last a.r a.table.now (state_of a.w.now))
    c.from_residual-in_err-y.ensures.0
    (before-out a.s.vars a.last a.r a.table.now (state_of a.w.now) c.row_at-from.result (c.row_at-from.result + a.s.vars)
    c.flip-others.result c.row_at-from.ensures refl c.flip-others.ensures (state_of c.substituted.new.w) (state_of c.both.new.w) c.in_ok-x.x
    c.in_ok-x.ensures c.in_err-y.ensures)

pub returns : goal.returns
returns c =
    let a = c.args in
    before-edge a.s.vars a.last a.r a.table.now (state_of a.w.now) c.row_at-from.result (c.row_at-from.result + a.s.vars)
    c.flip-others.result c.row_at-from.ensures refl c.flip-others.ensures (state_of c.substituted.new.w) (state_of c.both.new.w) c.in_ok-x.x
    c.in_ok-y.y _ c.in_ok-x.ensures c.in_ok-y.ensures c.both-2.ensures
