-- `heap::restore` meets its contract. Assumes nothing.
use Rattle.heap.proofs.Turns.{left_by, restored-none, restored-more}
use Rattle.heap.specs.Heap.{restored}
use lib.ListN as N
use native.Mathlib.Omega.{arith}
use mathlib.Core.Path.{◌≡◌, refl, sym, ◌∙◌}
use Rattle.heap.proofs.restore.Goals as goal

pub loop-t-preserved : goal.loop-t-preserved
loop-t-preserved c =
    let l = c.loop-t in
    let s = c.args in
    let more = restored-more l.work s.net l.h s.from l.t (omega arith) in
    let u = c.admit-h in
    rw (u.ensures.words, u.ensures.heap, c.field-v.ensures) (sym more ∙ l.invariant)

pub returns : goal.returns
returns c =
    let l = c.loop-t in
    let s = c.args in
    left_by (sym (restored-none l.work s.net l.h s.from l.t (omega arith)) ∙ l.invariant)
