-- `differences::read_difference` meets its contract. Assumes nothing.
use mathlib.Core.Path.{◌≡◌, ap}
use Prim.Native.Nat.{ℕ, ◌+◌, ◌-◌, ◌*◌, ◌≤◌}
use native.Mathlib.Omega.{arith}
use Rattle.differences.proofs.Reading.{low, product, cut_short, read-it, too_large, more, too_many}
use Rattle.differences.proofs.read_difference.Goals as goal

pub returns-then-s-i : goal.returns-then-s-i
returns-then-s-i c = cut_short c.loop.invariant (omega (arith, c.loop-test.true)) c.if-s-i.true

pub overflow_mul-total : goal.overflow_mul-total
overflow_mul-total c =
    let g = c.loop.invariant in
    omega (arith, low g (omega (arith, c.loop-test.true)), product g c.from-b.result (omega (arith, c.if-b-lt128.true)))

pub overflow_add-total : goal.overflow_add-total
overflow_add-total c =
    let g = c.loop.invariant in
    omega (arith, low g (omega (arith, c.loop-test.true)), product g c.from-b.result (omega (arith, c.if-b-lt128.true)), g.small)

pub returns-then-total-gt4294967295 : goal.returns-then-total-gt4294967295
returns-then-total-gt4294967295 c =
    too_large c.loop.invariant (omega (arith, c.loop-test.true)) c.if-s-i.false (omega (arith, c.if-b-lt128.true, c.from-b.ensures))
    (omega (arith, c.if-total-gt4294967295.true, ap (λ (x : ℕ). x * c.loop.scale) c.from-b.ensures))

pub returns-then-b-lt128 : goal.returns-then-b-lt128
returns-then-b-lt128 c =
    read-it c.loop.invariant (omega (arith, c.loop-test.true)) c.if-s-i.false (omega (arith, c.if-b-lt128.true, c.from-b.ensures)) _
    (ap (λ (x : ℕ). c.loop.total + x * c.loop.scale) c.from-b.ensures) (omega (arith, c.if-total-gt4294967295.false))

pub overflow_mul-total-in-loop : goal.overflow_mul-total-in-loop
overflow_mul-total-in-loop c =
    let g = c.loop.invariant in
    let byte : c.from-b.result - 128 ≤ 255 = omega (arith, c.from-b.ensures, c.type_inv.s c.loop.i) in
    omega (arith, low g (omega (arith, c.loop-test.true)), product g (c.from-b.result - 128) byte)

pub overflow_add-total-in-loop : goal.overflow_add-total-in-loop
overflow_add-total-in-loop c =
    let g = c.loop.invariant in
    let byte : c.from-b.result - 128 ≤ 255 = omega (arith, c.from-b.ensures, c.type_inv.s c.loop.i) in
    omega (arith, low g (omega (arith, c.loop-test.true)), product g (c.from-b.result - 128) byte, g.small)

pub overflow_mul-scale : goal.overflow_mul-scale
overflow_mul-scale c = omega (arith, low c.loop.invariant (omega (arith, c.loop-test.true)))

pub loop-preserved : goal.loop-preserved
loop-preserved c =
    let e : 5 - c.loop.counter - 1 ≡ 5 - (c.loop.counter + 1) = omega arith in
    rw (← e)
    (more c.loop.invariant (omega (arith, c.loop-test.true)) c.if-s-i.false (omega (arith, c.if-b-lt128.false, c.from-b.ensures))
    (omega (arith, c.type_inv.s c.loop.i)) (c.from-b.result - 128) (omega (arith, c.from-b.ensures)))

pub returns : goal.returns
returns c = too_many c.loop.invariant (omega (arith, c.loop-test.false))
