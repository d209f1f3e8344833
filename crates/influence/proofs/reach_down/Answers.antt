-- Each turn reaches from the gate before. Assumes nothing.
use mathlib.Core.Path.{◌≡◌, refl, sym, ap, ◌∙◌, subst}
use Prim.Native.Nat.{ℕ, ◌+◌, ◌-◌, ◌*◌}
use native.Mathlib.Omega.{arith}
use Rattle.aiger.specs.Circuit.{Gate}
use Rattle.influence.specs.Cone.{reach_down, gate_by, Room}
use Rattle.influence.proofs.Marks.{down-more, down-none}
use Rattle.influence.proofs.reach_down.Goals as goal

pub loop-k-init : goal.loop-k-init
loop-k-init c = (omega arith, refl)

pub overflow_mul-k : goal.overflow_mul-k
overflow_mul-k c = omega (arith, (c.requires (c.loop-k.k - 1) (omega arith)).inside)

pub overflow_add-at : goal.overflow_add-at
overflow_add-at c = omega (arith, (c.requires (c.loop-k.k - 1) (omega arith)).inside)

pub reach-requires : goal.reach-requires
reach-requires c =
    subst (λ (z : ℕ). Room c.args.m.now (c.args.at + 3 * (c.loop-k.k - 1)) c.args.last z) (sym c.loop-k.auto.marks) (c.requires (c.loop-k.k - 1) (omega arith))

pub loop-k-preserved : goal.loop-k-preserved
loop-k-preserved c =
    let f : ℕ → Gate = λ i. gate_by c.args.m.now (c.args.at + 3 * i) c.args.last in
    (omega arith, ap (reach_down f (c.loop-k.k - 1)) c.reach.ensures ∙ sym (down-more f c.loop-k.k c.loop-k.marks (omega arith)) ∙ c.loop-k.invariant.1)

pub returns : goal.returns
returns c =
    let f : ℕ → Gate = λ i. gate_by c.args.m.now (c.args.at + 3 * i) c.args.last in
    let e : 0 ≡ c.loop-k.k = omega arith in
    sym (down-none f c.loop-k.marks) ∙ ap (λ (z : ℕ). reach_down f z c.loop-k.marks) e ∙ c.loop-k.invariant.1
