-- Each turn gives a gate its values. Assumes nothing.
use mathlib.Core.Path.{◌≡◌, subst}
use Prim.Native.Nat.{ℕ}
use native.Mathlib.Omega.{arith}
use Rattle.signatures.proofs.Simulations.{EvaluatedUpto, evaluated-none, evaluated-more, left_below, right-below}
use Rattle.signatures.proofs.eval_gates.Goals as goal

pub loop-k-init : goal.loop-k-init
loop-k-init c = evaluated-none c.args.work.now c.args.g

pub eval_gate-requires : goal.eval_gate-requires
eval_gate-requires c =
    let i = c.loop-k.invariant in (
      omega arith,
      left_below c.args.work.now c.loop-k.work c.args.g c.loop-k.k c.requires.ordered (omega arith) (omega arith) i,
      right-below c.args.work.now c.loop-k.work c.args.g c.loop-k.k c.requires.ordered (omega arith) (omega arith) i,
    )

pub loop-k-preserved : goal.loop-k-preserved
loop-k-preserved c =
    evaluated-more c.args.work.now c.loop-k.work c.args.g c.loop-k.k c.requires.ordered (omega arith) (omega arith) c.loop-k.invariant c.eval_gate.new.work c.eval_gate.ensures

pub returns : goal.returns
returns c =
    let a = c.args in
    let e : c.loop-k.k ≡ a.g.nodes = omega arith in
    let u = subst (λ (m : ℕ). EvaluatedUpto a.work.now c.loop-k.work a.g m) e c.loop-k.invariant in
    record { right = u.right; kept = u.kept }
