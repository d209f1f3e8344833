-- `gate_order::start_waiting` meets its contract: each turn of its loop counts for one gate. Assumes nothing.
use mathlib.Core.Path.{refl}
use native.Mathlib.Omega.{arith}
use Rattle.gate_order.proofs.Counts.{Started, start, more, end}
use Rattle.gate_order.proofs.start_waiting.Goals as goal

pub loop-i-init : goal.loop-i-init
loop-i-init c = start _ _ _ _ _ c.requires.gates.1 c.requires.vars_len_bound

pub refresh-requires : goal.refresh-requires
refresh-requires c = record {
  gates = (c.requires.gates.0, c.loop-i.invariant.long);
  g_in_bounds = (c.loop-i-test.true, c.loop-i.invariant.blocks);
}

pub loop-i-preserved : goal.loop-i-preserved
loop-i-preserved c = more c.loop-i.invariant _ c.loop-i-test.true refl c.refresh.ensures

pub returns : goal.returns
returns c = end c.loop-i.invariant c.loop-i-test.false
