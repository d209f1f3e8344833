-- `lines::read_rows` meets its contract: each turn of its loop reads and stores one line. Assumes nothing.
use Rattle.std.proofs.Common.{arith, ◌≡◌, ◌+◌, ◌-◌, ◌<◌, ◌≤◌}
use Rattle.lines.proofs.Lines.{start, more, bad, bad-left, end, end-left, room-here}
use Rattle.lines.proofs.read_rows.Goals as goal

pub loop-init : goal.loop-init
loop-init c =
    let e : c.args.n - 0 ≡ c.args.n = omega arith in
    rw e (start _ _ _ _ _ _ _ _ c.requires.at_in_bounds c.requires.most_in_bounds)

pub read_line-requires-clause-most_in_bounds : goal.read_line-requires-clause-most_in_bounds
read_line-requires-clause-most_in_bounds c =
    room-here _ _ _ _ _ _ _ _ _ _ _ _ _ c.loop.invariant (omega (arith, c.loop-test.true))

pub overflow_add-to : goal.overflow_add-to
overflow_add-to c = omega (arith, room-here _ _ _ _ _ _ _ _ _ _ _ _ _ c.loop.invariant (omega (arith, c.loop-test.true)))

pub loop-preserved : goal.loop-preserved
loop-preserved c =
    let left = c.args.n - c.loop.counter in
    let t : 0 < left = omega (arith, c.loop-test.true) in
    let e : left - 1 ≡ c.args.n - (c.loop.counter + 1) = omega arith in
    rw (← e) (more _ _ _ _ _ _ _ _ _ _ _ _ _ c.loop.invariant _ _ _ t c.in_ok-line.ensures)

pub returns-in_err-line : goal.returns-in_err-line
returns-in_err-line c =
    let i = c.loop.invariant in
    let t : 0 < c.args.n - c.loop.counter = omega (arith, c.loop-test.true) in
    let bads = c.in_err-line.ensures in (
      rw c.from_residual.ensures (bad _ _ _ _ _ _ _ _ _ _ _ _ _ i t bads.0),
      bad-left _ _ _ _ _ _ _ _ _ _ _ _ _ i _ t bads.0 bads.1,
    )

pub returns : goal.returns
returns c =
    let i = c.loop.invariant in
    let z : c.args.n - c.loop.counter ≤ 0 = omega (arith, c.loop-test.false) in
    (end _ _ _ _ _ _ _ _ _ _ _ _ _ i z, end-left _ _ _ _ _ _ _ _ _ _ _ _ _ i z)
