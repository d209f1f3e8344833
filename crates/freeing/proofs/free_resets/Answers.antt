-- `freeing::free_resets` meets its contract. Assumes nothing.
use mathlib.Core.Path.{◌≡◌, refl, subst}
use Prim.Native.Nat.{ℕ}
use native.Mathlib.Omega.{arith}
use Rattle.freeing.specs.Steps.{Reset}
use Rattle.freeing.proofs.Stores.{reset-none, reset-more}
use Rattle.freeing.proofs.free_resets.Goals as goal

pub loop-j-init : goal.loop-j-init
loop-j-init c = reset-none _ _

pub loop-j-preserved : goal.loop-j-preserved
loop-j-preserved c =
    reset-more c.args.at c.loop-j.j c.loop-j.words _ c.loop-j.invariant (omega (arith, c.loop-j.auto.words)) refl

pub returns : goal.returns
returns c =
    let e : c.loop-j.j ≡ c.args.count = omega arith in
    subst (λ (k : ℕ). Reset c.args.at k c.args.words.now c.loop-j.words) e c.loop-j.invariant
