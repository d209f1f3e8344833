-- `arguments::read_seed` meets its contract. The loop's invariant is `Reading`. Assumes nothing.
use mathlib.Core.Path.{◌≡◌, refl}
use Prim.Native.Nat.{◌+◌, ◌-◌, ◌*◌}
use native.Mathlib.Omega.{arith}
use lib.ListN.{get_or}
use Rattle.numbers.proofs.Gather.{low, high}
use Rattle.arguments.proofs.Numbers.{start, outside, turn, over, other, one, many, padded}
use Rattle.arguments.proofs.read_seed.Goals as goal
use Rattle.arguments.proofs.read_seed.Goals.{else-n-gt1-via-then-n-gt1+else-text-eq48, else-n-gt1-via-else-n-gt1}

pub returns-then-n-eq0 : goal.returns-then-n-eq0
returns-then-n-eq0 c = outside _ c.then-n-eq0.either

pub loop-b-init : goal.loop-b-init
loop-b-init c = start _

pub returns-in_err-checked_mul-in-48-to-57 : goal.returns-in_err-checked_mul-in-48-to-57
returns-in_err-checked_mul-in-48-to-57 c =
    rw c.from_residual.ensures
    (over c.loop-b.invariant (omega arith) (get_or c.args.text.now c.loop-b.b-index 0 - 48) refl (omega (arith, c.in_err-checked_mul-in-48-to-57.ensures)))

pub returns-in_err-total-in-48-to-57 : goal.returns-in_err-total-in-48-to-57
returns-in_err-total-in-48-to-57 c =
    rw c.from_residual-in_err-total-in-48-to-57.ensures
    (over c.loop-b.invariant (omega arith) c.from.result c.from.ensures
    (omega (arith, c.in_ok-checked_mul-in-48-to-57.ensures, c.in_err-total-in-48-to-57.ensures)))

pub returns-in_default : goal.returns-in_default
returns-in_default c = other c.loop-b.invariant (omega arith) (low (get_or c.args.text.now c.loop-b.b-index 0) (omega arith))

pub returns-in_default-2 : goal.returns-in_default-2
returns-in_default-2 c = other c.loop-b.invariant (omega arith) (high (get_or c.args.text.now c.loop-b.b-index 0) (omega arith))

pub loop-b-preserved : goal.loop-b-preserved
loop-b-preserved c =
    let e : c.in_ok-total-in-48-to-57.total ≡ c.loop-b.total * 10 + c.from.result = omega (arith, c.in_ok-checked_mul-in-48-to-57.ensures, c.in_ok-total-in-48-to-57.ensures) in
    rw e (turn c.loop-b.invariant (omega arith) c.from.result c.from.ensures (omega arith) (omega arith)
    (omega (arith, c.in_ok-checked_mul-in-48-to-57.ensures, c.in_ok-total-in-48-to-57.ensures)))

pub returns-then-text-eq48 : goal.returns-then-text-eq48
returns-then-text-eq48 c = padded c.loop-b.invariant (omega arith) (omega arith) (omega arith) (omega arith)

pub returns : goal.returns
returns c =
    elim c.else-n-gt1.branch [
      | else-n-gt1-via-then-n-gt1+else-text-eq48 w ↦ many c.loop-b.invariant (omega arith) (omega arith) (omega arith) (omega arith)
      | else-n-gt1-via-else-n-gt1 w ↦ one c.loop-b.invariant (omega arith) (omega arith)
    ]
