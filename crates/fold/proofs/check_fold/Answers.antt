-- `fold::check_fold` meets its contract: the tests 10 to 12, then the length of the output. Assumes nothing.
use Rattle.std.proofs.Common.{◌∙◌, true, ◌+◌, ◌*◌, [], ◌∷◌, arith}
use lib.Dec.{leb}
use Rattle.aiger.specs.Frames.{size}
use Rattle.aiger.specs.Operations.{need, bound_tests}
use Rattle.limits.proofs.Sizes.{size_is}
use Rattle.limits.proofs.Refusals.{judge-refused, length-refused, length-passes}
use Rattle.fold.proofs.check_fold.Goals as goal

pub returns-in-Err : goal.returns-in-Err
returns-in-Err c =
    let a = c.args in
    λ x e.
    judge-refused (bound_tests x a.b a.t true a.room) (need 13 (leb (24 * size x a.t + 64) a.len) ∷ []) _
    (rw c.in-Err.is at (c.check_bounds.ensures.tests x e))

pub returns-then-len-units : goal.returns-then-len-units
returns-then-len-units c =
    let a = c.args in
    λ x e.
    let u = c.size-units.ensures ∙ size_is e a.t in
    length-refused (bound_tests x a.b a.t true a.room) (rw c.in_default.is at (c.check_bounds.ensures.tests x e)) (24 * size x a.t + 64) a.len
    (omega (arith, c.if-len-units.true))

pub returns : goal.returns
returns c =
    let a = c.args in
    λ x e.
    let u = c.size-units.ensures ∙ size_is e a.t in
    length-passes (bound_tests x a.b a.t true a.room) (rw c.in_default.is at (c.check_bounds.ensures.tests x e)) (24 * size x a.t + 64) a.len
    (omega (arith, c.if-len-units.false))
