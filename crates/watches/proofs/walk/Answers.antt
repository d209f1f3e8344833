-- `watches::walk` meets its contract. Assumes nothing.
use Rattle.trail.proofs.Turns.{left_by}
use Rattle.watches.proofs.Turns.{walked_none, walked_end, walked_more}
use Rattle.watches.specs.Watch.{walked}
use lib.ListN as N
use native.Mathlib.Omega.{arith}
use mathlib.Core.Path.{◌≡◌, refl, sym, ◌∙◌}
use Prim.Native.Nat.{◌-◌, ◌+◌}
use Rattle.watches.proofs.walk.Goals as goal

pub returns-then-arena-u : goal.returns-then-arena-u
returns-then-arena-u c =
    let s = c.args in
    left_by (sym (walked_end c.loop.work s.net s.arena c.loop.u s.f (c.args.n - c.loop.counter) c.if-arena-u.true) ∙ c.loop.invariant)

pub loop-preserved : goal.loop-preserved
loop-preserved c =
    let rest : c.args.n - (c.loop.counter + 1) ≡ c.args.n - c.loop.counter - 1 = omega arith in
    let s = c.args in
    let more = walked_more c.loop.work s.net s.arena c.loop.u s.f (c.args.n - c.loop.counter) (omega arith)
    c.if-arena-u.false in
    rw (rest, c.step-u.ensures.words, c.step-u.ensures.state) (sym more ∙ c.loop.invariant)

pub returns : goal.returns
returns c =
    let s = c.args in
    left_by (sym (walked_none c.loop.work s.net s.arena c.loop.u s.f (c.args.n - c.loop.counter) (omega arith)) ∙ c.loop.invariant)
