-- Each turn finds a slot's node. Assumes nothing.
use native.Mathlib.Omega.{arith}
use Rattle.simulation.proofs.FirstUses.{firsts_more}
use Rattle.simulation.proofs.fill_firsts.Goals as goal

pub loop-k-init : goal.loop-k-init
loop-k-init c = (c.requires.netlist.2.sized.leaves, omega arith, λ k h. absurd (omega arith))

pub first_use-end-requires : goal.first_use-end-requires
first_use-end-requires c = record { netlist = c.requires.netlist; free_bound = (c.loop-k.invariant.0, c.loop-k.invariant.1) }

pub overflow_cast-firsts : goal.overflow_cast-firsts
overflow_cast-firsts c = omega (arith, c.first_use-end.ensures.0, c.requires.netlist.2.sized)

pub loop-k-preserved : goal.loop-k-preserved
loop-k-preserved c =
    let e = c.first_use-end.ensures in (
      e.1.gates,
      e.1.most,
      firsts_more c.args.work.now c.args.g c.args.slots.now c.loop-k.firsts c.loop-k.k c.first_use-end.result (omega arith) c.loop-k.invariant.2 e.1,
    )

pub returns : goal.returns
returns c = λ k h. c.loop-k.invariant.2 k (omega arith)
