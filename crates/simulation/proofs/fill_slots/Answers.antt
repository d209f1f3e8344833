-- Each turn lets a free bit take a slot. Assumes nothing.
use mathlib.Core.Path.{◌≡◌, refl, ap, ◌∙◌, subst}
use Prim.Native.Nat.{ℕ, ◌-◌}
use native.Mathlib.Omega.{arith}
use Rattle.support.specs.Counting.{rank}
use Rattle.support.specs.Support.{support}
use Rattle.simulation.specs.Store.{SlotsTo}
use Rattle.simulation.proofs.Nets.{net-held}
use Rattle.simulation.proofs.Slots.{taken-bound, next_more, slots-more, as-taken}
use Rattle.simulation.proofs.fill_slots.Goals as goal

pub loop-i-init : goal.loop-i-init
loop-i-init c = (omega arith, λ gs root net h. h, λ h a. a)

pub overflow_mul-mark : goal.overflow_mul-mark
overflow_mul-mark c = omega (arith, c.requires.netlist.2.sized)

pub overflow_add-mark : goal.overflow_add-mark
overflow_add-mark c = omega (arith, c.requires.netlist.2.sized)

pub offset_bounds-work-v : goal.offset_bounds-work-v
offset_bounds-work-v c = omega (arith, c.requires.netlist.2.sized)

pub bounds-work-v : goal.bounds-work-v
bounds-work-v c = omega (arith, net-held c.requires.netlist.2 (c.args.g.free - c.loop-i.i) (omega (arith, c.requires.netlist.2.sized)))

pub overflow_cast-v : goal.overflow_cast-v
overflow_cast-v c = omega (arith, c.requires.netlist.2.sized)

pub take_slot-next-requires : goal.take_slot-next-requires
take_slot-next-requires c = (omega (arith, c.requires.netlist.2.sized), omega arith)

pub loop-i-preserved : goal.loop-i-preserved
loop-i-preserved c = (
  omega (arith, taken-bound c.take_slot-next.ensures),
  λ gs root net h.
      next_more {g = c.args.g} (omega arith) (as-taken c.loop-i.i c.args.g c.args.work.now c.args.g.free refl c.take_slot-next.ensures) net (c.loop-i.invariant.1 gs root net h),
  λ h a.
      slots-more {g = c.args.g} (omega arith) (as-taken c.loop-i.i c.args.g c.args.work.now c.args.g.free refl c.take_slot-next.ensures)
      (λ gs root net. c.loop-i.invariant.1 gs root net (h gs root net)) (c.loop-i.invariant.2 h a),
)

pub returns : goal.returns
returns c =
    let g = c.args.g in
    let w = c.args.work.now in
    let z : c.loop-i.i ≡ c.args.to = omega arith in
    record {
      most = omega arith;
      next-is = λ gs root net h. c.loop-i.invariant.1 gs root net h ∙ ap (rank (support g.free gs root)) z;
      slots-are = λ h a. subst (λ (x : ℕ). SlotsTo w g c.loop-i.slots x) z (c.loop-i.invariant.2 h a);
    }
