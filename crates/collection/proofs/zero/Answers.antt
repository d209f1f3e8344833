use mathlib.Core.Path.{subst}
use Rattle.std.proofs.Common.{◌≡◌, ℕ, arith}
use Rattle.collection.specs.Zeros.{Zeroed}
use Rattle.collection.proofs.Turns.{zeroed-none, zeroed-more}
use Rattle.collection.proofs.zero.Goals as goal

pub loop-i-init : goal.loop-i-init
loop-i-init c = (zeroed-none c.args.w.now c.args.from, omega arith)

pub bounds-w-i : goal.bounds-w-i
bounds-w-i c = omega (arith, c.loop-i.invariant.0.long, c.requires.1, c.loop-i-test.true)

pub loop-i-preserved : goal.loop-i-preserved
loop-i-preserved c =
    let h = c.loop-i.invariant.0.long in (
      zeroed-more c.args.w.now c.loop-i.w c.args.from c.loop-i.i c.loop-i.invariant.1
          (omega (arith, h, c.requires.1, c.loop-i-test.true)) c.loop-i.invariant.0,
      omega (arith, c.loop-i.invariant.1),
    )

pub returns : goal.returns
returns c =
    let a = c.args in
    let e : c.loop-i.i ≡ a.to = omega (arith, c.loop-i.auto.i-end, c.loop-i-test.false) in
    subst (λ (i : ℕ). Zeroed a.w.now c.loop-i.w a.from i) e c.loop-i.invariant.0
