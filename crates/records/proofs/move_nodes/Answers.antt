-- `records::move_nodes` meets its contract. Assumes nothing.
use mathlib.Core.Path.{◌≡◌, refl, sym, ap, ◌∙◌}
use Prim.Native.Nat.{◌+◌, ◌-◌, ◌≤◌}
use native.Mathlib.Omega.{arith}
use lib.ListN as N
use Rattle.records.specs.Steps as S
use Rattle.records.proofs.Turns.{moved_none, moved_more}
use Rattle.records.proofs.move_nodes.Goals as goal

pub loop-k-preserved : goal.loop-k-preserved
loop-k-preserved c =
    let s = c.args in
    sym (moved_more c.loop-k.work c.move_node.new.work c.loop-k.k (s.n - c.loop-k.k) (s.n - (c.loop-k.k + 1)) (omega arith) c.move_node.ensures) ∙ c.loop-k.invariant

pub returns : goal.returns
returns c =
    let s = c.args in
    sym (moved_none c.loop-k.work c.loop-k.k (s.n - c.loop-k.k) (omega arith)) ∙ c.loop-k.invariant
