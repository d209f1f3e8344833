-- `records::set_leaves` meets its contract. Assumes nothing.
use mathlib.Core.Path.{◌≡◌, refl, sym, ap, ◌∙◌}
use Prim.Native.Nat.{◌+◌, ◌-◌, ◌≤◌}
use native.Mathlib.Omega.{arith}
use lib.ListN as N
use Rattle.records.specs.Steps as S
use Rattle.records.proofs.Turns.{down-none, down-at}
use Rattle.records.proofs.set_leaves.Goals as goal

pub loop-k-preserved : goal.loop-k-preserved
loop-k-preserved c =
    let s = c.args in
    sym (down-at S.leaf_set c.loop-k.k (c.loop-k.k - 1) c.loop-k.work c.set_leaf.new.work (omega arith) c.set_leaf.ensures) ∙ c.loop-k.invariant

pub returns : goal.returns
returns c =
    let s = c.args in
    sym (down-none S.leaf_set c.loop-k.k c.loop-k.work (omega arith)) ∙ c.loop-k.invariant
