-- Each turn clears a leaf. Assumes nothing.
use mathlib.Core.Path.{◌≡◌, subst}
use Prim.Native.Nat.{ℕ, ◌+◌}
use native.Mathlib.Omega.{arith}
use Rattle.simulation.specs.Store.{LeavesCleared}
use Rattle.simulation.proofs.Nets.{net-held, net-kept}
use Rattle.simulation.proofs.Slots.{cleared-none, cleared_more}
use Rattle.simulation.proofs.clear_leaves.Goals as goal

pub overflow_add-v-end : goal.overflow_add-v-end
overflow_add-v-end c = omega (arith, c.requires.2.sized)

pub loop-v-init : goal.loop-v-init
loop-v-init c = cleared-none c.args.work.now

pub put_word-requires : goal.put_word-requires
put_word-requires c =
    net-held (net-kept c.requires.2 c.loop-v.work c.loop-v.invariant.kept c.loop-v.auto.work) c.loop-v.v (omega (arith, c.requires.2.sized))

pub loop-v-preserved : goal.loop-v-preserved
loop-v-preserved c = cleared_more c.args.work.now c.loop-v.work c.put_word.new.work c.loop-v.v c.loop-v.invariant c.put_word.ensures

pub returns : goal.returns
returns c =
    let z : c.loop-v.v ≡ c.args.g.free + 1 = omega arith in
    subst (λ (x : ℕ). LeavesCleared c.args.work.now c.loop-v.work x) z c.loop-v.invariant
