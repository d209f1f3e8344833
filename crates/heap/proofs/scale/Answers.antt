-- `heap::scale` meets its contract. Assumes nothing.
use Rattle.heap.proofs.Turns.{scaled-none, scaled-more}
use Rattle.heap.specs.Heap.{scaled}
use lib.ListN as N
use native.Mathlib.Omega.{arith}
use mathlib.Core.Path.{◌≡◌, refl, sym, ◌∙◌}
use Rattle.heap.proofs.scale.Goals as goal

pub loop-v-preserved : goal.loop-v-preserved
loop-v-preserved c =
    let l = c.loop-v in
    let s = c.args in
    let more = scaled-more l.work s.nodes l.v (omega arith) in
    let u = c.set_field in
    rw (u.ensures, c.field-x.ensures) (sym more ∙ l.invariant)

pub returns : goal.returns
returns c =
    let l = c.loop-v in
    let s = c.args in
    sym (scaled-none l.work s.nodes l.v (omega arith)) ∙ l.invariant
