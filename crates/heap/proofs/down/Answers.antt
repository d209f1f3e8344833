-- `heap::down` meets its contract. Assumes nothing.
use Rattle.heap.proofs.Turns.{downed-none, downed-stop, downed-more}
use Rattle.heap.specs.Heap.{downed, is_below, larger, child}
use Prim.Native.Nat.{ℕ, ◌-◌, ◌+◌}
use lib.ListN as N
use native.Mathlib.Omega.{arith}
use mathlib.Core.Path.{◌≡◌, refl, sym, ap, ◌∙◌}
use Rattle.heap.proofs.down.Goals as goal

pub loop-preserved : goal.loop-preserved
loop-preserved c =
    let rest : c.args.n - (c.loop.counter + 1) ≡ c.args.n - c.loop.counter - 1 = omega arith in
    let l = c.loop in
    let s = c.args in
    let e = c.larger-c.ensures
    ∙ ap (larger l.work s.nodes s.size) c.child.ensures in
    let more = downed-more l.work s.nodes s.size s.v l.at (c.args.n - c.loop.counter) (omega arith)
    (sym (ap (λ (k : ℕ). is_below l.work s.nodes s.size k s.v) e)
    ∙ sym c.is_below.ensures ∙ c.if-is_below.true) in
    let u = c.lift in
    rw (rest, u.ensures, e) (sym more ∙ l.invariant)

pub returns-else-is_below : goal.returns-else-is_below
returns-else-is_below c =
    let l = c.loop in
    let s = c.args in
    let e = c.larger-c.ensures
    ∙ ap (larger l.work s.nodes s.size) c.child.ensures in
    let stop = downed-stop l.work s.nodes s.size s.v l.at (c.args.n - c.loop.counter)
    (sym (ap (λ (k : ℕ). is_below l.work s.nodes s.size k s.v) e)
    ∙ sym c.is_below.ensures ∙ c.if-is_below.false) in
    c.seat.ensures ∙ sym stop ∙ l.invariant

pub returns : goal.returns
returns c =
    let l = c.loop in
    let s = c.args in
    let none = downed-none l.work s.nodes s.size s.v l.at (c.args.n - c.loop.counter) (omega arith) in
    c.seat-2.ensures ∙ sym none ∙ l.invariant
