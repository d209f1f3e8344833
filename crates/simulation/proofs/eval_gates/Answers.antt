-- Each turn gives a gate its values. Assumes nothing.
use native.Mathlib.Omega.{arith}
use Rattle.simulation.proofs.Nets.{kept-none, kept_trans, kept-gate, net-kept, net-evaluable, simulated-more}
use Rattle.simulation.proofs.eval_gates.Goals as goal

pub loop-k-init : goal.loop-k-init
loop-k-init c = (kept-none c.args.work.now, λ gs root net h f s. s)

pub eval_gate-requires : goal.eval_gate-requires
eval_gate-requires c =
    net-evaluable (net-kept c.requires.netlist.2 c.loop-k.work c.loop-k.invariant.0 c.loop-k.auto.work) c.loop-k.k (omega arith) (omega arith)

pub loop-k-preserved : goal.loop-k-preserved
loop-k-preserved c = (
  kept_trans c.args.work.now c.loop-k.work c.eval_gate.new.work c.loop-k.invariant.0 (kept-gate c.loop-k.work c.eval_gate.new.work c.loop-k.k c.eval_gate.ensures),
  λ gs root net h f sim.
      simulated-more (net-kept net c.loop-k.work c.loop-k.invariant.0 c.loop-k.auto.work) f c.eval_gate.new.work c.loop-k.k (omega arith) (omega arith) c.eval_gate.ensures
      (c.loop-k.invariant.1 gs root net h f sim),
)

pub returns : goal.returns
returns c =
    record {
      kept = c.loop-k.invariant.0;
      values = λ gs root net f sim v h. c.loop-k.invariant.1 gs root net (omega arith) f sim v (omega arith);
    }
