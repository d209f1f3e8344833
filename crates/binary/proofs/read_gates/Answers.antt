-- `binary::read_gates` meets its contract: each turn of its loop reads and stores one gate. Assumes nothing.
use Rattle.std.proofs.Common.{arith, ◌≡◌, ◌+◌, ◌-◌, ◌<◌, ◌≤◌}
use Rattle.binary.proofs.Differences.{start, more, bad, bad-left, end, end-left}
use Rattle.binary.proofs.read_gates.Goals as goal

pub loop-init : goal.loop-init
loop-init c =
    let r = c.requires in
    let e : c.args.n - 0 ≡ c.args.n = omega arith in
    rw e (start _ _ _ _ _ _ r.at_in_bounds r.n_in_bounds r.n_bound)

pub loop-preserved : goal.loop-preserved
loop-preserved c =
    let left = c.args.n - c.loop.counter in
    let t : 0 < left = omega (arith, c.loop-test.true) in
    let e : left - 1 ≡ c.args.n - (c.loop.counter + 1) = omega arith in
    rw (← e) (more c.loop.invariant _ _ t c.in_ok-next.ensures)

pub returns-in_err-next : goal.returns-in_err-next
returns-in_err-next c =
    let i = c.loop.invariant in
    let t : 0 < c.args.n - c.loop.counter = omega (arith, c.loop-test.true) in
    let f = c.in_err-next.ensures in
    (rw c.from_residual.ensures (bad i t f.0), bad-left i _ t f.0 f.1)

pub returns : goal.returns
returns c =
    let i = c.loop.invariant in
    let z : c.args.n - c.loop.counter ≤ 0 = omega (arith, c.loop-test.false) in
    (end i z, end-left i z)
