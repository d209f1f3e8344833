-- `heap::up` meets its contract. Assumes nothing.
use Rattle.heap.proofs.Turns.{upped-none, upped-stop, upped-more}
use Rattle.heap.specs.Heap.{upped}
use lib.ListN as N
use native.Mathlib.Omega.{arith}
use mathlib.Core.Path.{◌≡◌, refl, sym, ◌∙◌}
use Prim.Native.Nat.{◌-◌, ◌+◌}
use Rattle.heap.proofs.up.Goals as goal

pub loop-preserved : goal.loop-preserved
loop-preserved c =
    let rest : c.args.n - (c.loop.counter + 1) ≡ c.args.n - c.loop.counter - 1 = omega arith in
    let l = c.loop in
    let s = c.args in
    let more = upped-more l.work s.nodes s.v l.at (c.args.n - c.loop.counter) (omega arith)
    (sym c.is_above.ensures ∙ c.if-is_above.true)
    in
    let u = c.lower in
    rw (rest, u.ensures, c.parent-at.ensures) (sym more ∙ l.invariant)

pub returns-else-is_above : goal.returns-else-is_above
returns-else-is_above c =
    let l = c.loop in
    let s = c.args in
    let stop = upped-stop l.work s.nodes s.v l.at (c.args.n - c.loop.counter)
    (sym c.is_above.ensures ∙ c.if-is_above.false) in
    c.seat.ensures ∙ sym stop ∙ l.invariant

pub returns : goal.returns
returns c =
    let l = c.loop in
    let s = c.args in
    let none = upped-none l.work s.nodes s.v l.at (c.args.n - c.loop.counter) (omega arith) in
    c.seat-2.ensures ∙ sym none ∙ l.invariant
