-- `conflicts::fill` meets its contract. Assumes nothing.
use Rattle.heap.proofs.Turns.{left_by}
use Rattle.conflicts.proofs.Turns.{filled_none, filled_more}
use Rattle.conflicts.specs.Conflicts.{filled}
use lib.ListN as N
use native.Mathlib.Omega.{arith}
use mathlib.Core.Path.{◌≡◌, refl, sym, ◌∙◌}
use Prim.Native.Nat.{◌-◌, ◌+◌}
use Rattle.conflicts.proofs.fill.Goals as goal

pub loop-preserved : goal.loop-preserved
loop-preserved c =
    let rest : c.args.n - (c.loop.counter + 1) ≡ c.args.n - c.loop.counter - 1 = omega arith in
    let s = c.args in
    let more = filled_more c.loop.work s.net c.loop.h c.loop.v (c.args.n - c.loop.counter) (omega arith) in
    rw (rest, c.admit-h.ensures.words, c.admit-h.ensures.heap, c.successor-v.ensures) (sym more ∙ c.loop.invariant)

pub returns : goal.returns
returns c =
    let s = c.args in
    left_by (sym (filled_none c.loop.work s.net c.loop.h c.loop.v (c.args.n - c.loop.counter) (omega arith)) ∙ c.loop.invariant)
