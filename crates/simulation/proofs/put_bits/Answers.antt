-- Each turn gives a slot its bit. Assumes nothing.
use mathlib.Core.Path.{◌≡◌, subst}
use Prim.Native.Nat.{ℕ, ◌-◌}
use native.Mathlib.Omega.{arith}
use lib.ListN.{get_or}
use Rattle.simulation.specs.Store.{BitsPut}
use Rattle.places.proofs.Digits.{digit-is}
use Rattle.simulation.proofs.Blocks.{bits_none, bits-more}
use Rattle.simulation.proofs.put_bits.Goals as goal

pub loop-k-init : goal.loop-k-init
loop-k-init c = bits_none c.args.work.now c.args.slots.now c.args.y

pub bounds-slots-k : goal.bounds-slots-k
bounds-slots-k c = omega (arith, c.requires.slotted.held)

pub overflow_sub-work : goal.overflow_sub-work
overflow_sub-work c = c.requires.by_index c.loop-k.k (omega arith)

pub offset_bounds-work-v : goal.offset_bounds-work-v
offset_bounds-work-v c = omega (arith, c.requires.slotted.inside c.loop-k.k (omega arith))

pub bounds-work-v : goal.bounds-work-v
bounds-work-v c = omega (arith, c.requires.slotted.inside c.loop-k.k (omega arith))

pub loop-k-preserved : goal.loop-k-preserved
loop-k-preserved c =
    bits-more c.args.work.now c.loop-k.work c.args.slots.now c.loop-k.k c.args.y c.bit_of.result (c.requires.by_index c.loop-k.k (omega arith))
    (omega (arith, c.requires.slotted.inside c.loop-k.k (omega arith))) (λ i j h u. c.requires.slotted.differ i j h (omega arith))
    (λ i h. c.requires.by_index i (omega arith))
    (digit-is c.bit_of.result _ c.bit_of.ensures) c.loop-k.invariant

pub returns : goal.returns
returns c =
    let z : c.loop-k.k ≡ c.args.count = omega arith in
    subst (λ (x : ℕ). BitsPut c.args.work.now c.loop-k.work c.args.slots.now x c.args.y) z c.loop-k.invariant
