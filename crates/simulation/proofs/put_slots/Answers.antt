-- Each turn gives a slot its values. Assumes nothing.
use mathlib.Core.Path.{◌≡◌, subst}
use Prim.Native.Nat.{ℕ}
use native.Mathlib.Omega.{arith}
use Rattle.simulation.specs.Store.{SlotsPut}
use Rattle.simulation.proofs.Slots.{put-none, put-more}
use Rattle.simulation.proofs.put_slots.Goals as goal

pub loop-k-init : goal.loop-k-init
loop-k-init c = put-none c.args.work.now c.args.slots.now c.args.from c.args.block

pub bounds-slots-k : goal.bounds-slots-k
bounds-slots-k c = omega (arith, c.requires.slotted.held)

pub put_word-requires : goal.put_word-requires
put_word-requires c = omega (arith, c.requires.slotted.inside c.loop-k.k (omega arith))

pub loop-k-preserved : goal.loop-k-preserved
loop-k-preserved c =
    put-more c.args.work.now c.loop-k.work c.put_word.new.work c.args.slots.now c.args.from c.loop-k.k c.args.block c.counting_word.result (omega arith)
    (λ i j h u. c.requires.slotted.differ i j h (omega arith)) c.loop-k.invariant c.counting_word.ensures c.put_word.ensures

pub returns : goal.returns
returns c =
    let z : c.loop-k.k ≡ c.args.to = omega arith in
    subst (λ (x : ℕ). SlotsPut c.args.work.now c.loop-k.work c.args.slots.now c.args.from x c.args.block) z c.loop-k.invariant
