-- Each turn numbers a leaf. Assumes nothing.
use mathlib.Core.Path.{refl}
use Prim.Native.Nat.{◌+◌}
use native.Mathlib.Omega.{arith}
use Rattle.cone.proofs.Stores.{filled_none, filled_more}
use Rattle.cone.proofs.number_leaves.Goals as goal

pub loop-k-init : goal.loop-k-init
loop-k-init c = filled_none (λ i. i) c.args.work.now (c.args.g.free + 1)

pub loop-k-preserved : goal.loop-k-preserved
loop-k-preserved c =
    let a = c.args in
    filled_more (λ i. i) a.work.now c.loop-k.work (a.g.free + 1) c.loop-k.k c.loop-k.k refl (omega arith) (omega arith) c.loop-k.invariant

pub returns : goal.returns
returns c =
    let u = c.loop-k.invariant in
    record { numbers = λ k h. u.words k (omega arith); others = u.others }
