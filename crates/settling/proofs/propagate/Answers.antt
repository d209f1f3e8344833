-- `settling::propagate` meets its contract. Assumes nothing.
use Rattle.trail.proofs.Turns.{left_by}
use Rattle.settling.proofs.Turns.{propagated-none, propagated-end, propagated-stop, propagated-more}
use Rattle.settling.specs.Settling.{propagated}
use lib.ListN as N
use native.Mathlib.Omega.{arith}
use mathlib.Core.Path.{◌≡◌, refl, sym, ◌∙◌}
use Prim.Native.Nat.{◌-◌, ◌+◌}
use Rattle.settling.proofs.propagate.Goals as goal

pub returns-then-t : goal.returns-then-t
returns-then-t c =
    let s = c.args in
    left_by (sym (propagated-end c.loop.work s.net s.arena c.loop.t (c.args.n - c.loop.counter) c.if-t.true) ∙ c.loop.invariant)

pub returns-then-t-2 : goal.returns-then-t-2
returns-then-t-2 c =
    let s = c.args in
    left_by (sym (propagated-stop c.loop.work s.net s.arena c.loop.t (c.args.n - c.loop.counter) c.if-t.false c.if-t-2.true)
    ∙ c.loop.invariant)

pub loop-preserved : goal.loop-preserved
loop-preserved c =
    let rest : c.args.n - (c.loop.counter + 1) ≡ c.args.n - c.loop.counter - 1 = omega arith in
    let s = c.args in
    let more = propagated-more c.loop.work s.net s.arena c.loop.t (c.args.n - c.loop.counter) (omega arith)
    c.if-t.false c.if-t-2.false in
    rw (rest, c.follow-t.ensures.words, c.follow-t.ensures.state) (sym more ∙ c.loop.invariant)

pub returns : goal.returns
returns c =
    let s = c.args in
    left_by (sym (propagated-none c.loop.work s.net s.arena c.loop.t (c.args.n - c.loop.counter) (omega arith)) ∙ c.loop.invariant)
