-- Each turn takes the word before. Assumes nothing.
use mathlib.Core.Path.{◌≡◌, ap, ◌∙◌}
use Prim.Native.Nat.{ℕ, ◌-◌}
use native.Mathlib.Omega.{arith}
use lib.ListN.{length}
use Rattle.states.specs.Number.{number_at, hashed}
use Rattle.states.proofs.Numbers.{hash-more, hash-none}
use Rattle.states.proofs.hash.Goals as goal

pub loop-i-init : goal.loop-i-init
loop-i-init c = (omega arith, hash-none c.args.s.now (length c.args.s.now))

pub loop-i-preserved : goal.loop-i-preserved
loop-i-preserved c =
    let s = c.args.s.now in (
      omega arith,
      hash-more s (length s) c.loop-i.i c.loop-i.h c.mix-h.result (omega arith) c.loop-i.invariant.0 (omega (arith, c.type_inv.s (c.loop-i.i - 1)))
          c.loop-i.invariant.1 c.mix-h.ensures,
    )

pub returns : goal.returns
returns c =
    let s = c.args.s.now in
    let e : c.loop-i.i ≡ 0 = omega arith in
    let z : length s - 0 ≡ length s = omega arith in
    c.loop-i.invariant.1 ∙ ap (λ (x : ℕ). hashed (length s - x) (number_at s x (length s - x))) e ∙ ap (λ (x : ℕ). hashed x (number_at s 0 x)) z
