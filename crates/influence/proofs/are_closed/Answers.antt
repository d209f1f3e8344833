-- Each turn looks at a gate. Assumes nothing.
use mathlib.Core.Path.{◌≡◌, refl, sym, ap, ◌∙◌}
use Prim.Native.Nat.{ℕ, ◌+◌, ◌*◌}
use native.Mathlib.Omega.{arith}
use Rattle.aiger.specs.Lists.{every_below}
use Rattle.influence.specs.Cone.{closed_at, gate_by}
use Rattle.influence.proofs.Marks.{below_more, below_fails}
use Rattle.influence.proofs.are_closed.Goals as goal

pub loop-i-init : goal.loop-i-init
loop-i-init c = refl

pub overflow_mul-i : goal.overflow_mul-i
overflow_mul-i c = omega (arith, (c.requires c.loop-i.i (omega arith)).inside)

pub overflow_add-at : goal.overflow_add-at
overflow_add-at c = omega (arith, (c.requires c.loop-i.i (omega arith)).inside)

pub is_closed-requires : goal.is_closed-requires
is_closed-requires c = c.requires c.loop-i.i (omega arith)

pub returns-then-not-is_closed : goal.returns-then-not-is_closed
returns-then-not-is_closed c =
    below_fails (λ k. closed_at c.args.marks.now (gate_by c.args.m.now (c.args.at + 3 * k) c.args.last)) c.args.n c.loop-i.i (omega arith) (sym c.is_closed.ensures ∙ c.if-not-is_closed.true)

pub loop-i-preserved : goal.loop-i-preserved
loop-i-preserved c =
    below_more (λ k. closed_at c.args.marks.now (gate_by c.args.m.now (c.args.at + 3 * k) c.args.last)) c.loop-i.i c.loop-i.invariant (sym c.is_closed.ensures ∙ c.if-not-is_closed.false)

pub returns : goal.returns
returns c =
    let e : c.loop-i.i ≡ c.args.n = omega arith in
    sym (ap (λ (z : ℕ). every_below z (λ k. closed_at c.args.marks.now (gate_by c.args.m.now (c.args.at + 3 * k) c.args.last))) (sym e) ∙ c.loop-i.invariant)
