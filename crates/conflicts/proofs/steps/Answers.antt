-- `conflicts::steps` meets its contract. Assumes nothing.
use Rattle.conflicts.proofs.Turns.{left_by, steps-none, steps-over, steps-spent, steps-more}
use Rattle.conflicts.specs.Conflicts.{steps}
use Rattle.learning.specs.declared.Search.{Search}
use mathlib.Core.List.{List}
use Prim.Native.Nat.{ℕ, ◌-◌, ◌+◌}
use mathlib.Core.Path.{ap₂}
use lib.ListN as N
use native.Mathlib.Omega.{arith}
use mathlib.Core.Path.{◌≡◌, refl, sym, ◌∙◌}
use Rattle.conflicts.proofs.steps.Goals as goal

pub returns-then-o-ne0 : goal.returns-then-o-ne0
returns-then-o-ne0 c =
    let s = c.args in
    left_by (sym (steps-over c.loop.work s.net c.loop.u s.effort (c.args.effort - c.loop.counter) c.if-o-ne0.true) ∙ c.loop.invariant)

pub returns-then-effort-o : goal.returns-then-effort-o
returns-then-effort-o c =
    let s = c.args in
    left_by (sym (steps-spent c.loop.work s.net c.loop.u s.effort (c.args.effort - c.loop.counter) c.if-o-ne0.false c.if-effort-o.true) ∙ c.loop.invariant)

pub loop-preserved : goal.loop-preserved
loop-preserved c =
    let rest : c.args.effort - (c.loop.counter + 1) ≡ c.args.effort - c.loop.counter - 1 = omega arith in
    let s = c.args in
    let more = steps-more c.loop.work s.net c.loop.u s.effort (c.args.effort - c.loop.counter) (omega arith)
    c.if-o-ne0.false c.if-effort-o.false in
    rw rest (ap₂ (λ (w : List ℕ) (t : Search). steps w s.net t s.effort (c.args.effort - c.loop.counter - 1)) c.step-u.ensures.words
    c.step-u.ensures.search ∙ sym more ∙ c.loop.invariant)

pub returns : goal.returns
returns c =
    let s = c.args in
    left_by (sym (steps-none c.loop.work s.net c.loop.u s.effort (c.args.effort - c.loop.counter) (omega arith)) ∙ c.loop.invariant)
