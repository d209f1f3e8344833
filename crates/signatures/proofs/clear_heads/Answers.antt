-- Each turn empties a bucket. Assumes nothing.
use native.Mathlib.Omega.{arith}
use Rattle.signatures.proofs.Buckets.{cleared-none, cleared_more}
use Rattle.signatures.proofs.clear_heads.Goals as goal

pub loop-h-init : goal.loop-h-init
loop-h-init c = cleared-none c.args.work.now c.args.room

pub loop-h-preserved : goal.loop-h-preserved
loop-h-preserved c =
    let a = c.args in
    cleared_more a.work.now c.loop-h.work a.room c.loop-h.h (omega arith) (omega arith) c.loop-h.invariant

pub returns : goal.returns
returns c =
    let u = c.loop-h.invariant in
    (λ h l. u.heads h (omega arith), u.others)
