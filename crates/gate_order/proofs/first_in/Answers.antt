-- `gate_order::first_in` meets its contract. Assumes nothing.
use native.Mathlib.Omega.{arith}
use Rattle.gate_order.proofs.Blocks.{Looking, look, look-on, look-found, look-end}
use Rattle.gate_order.proofs.first_in.Goals as goal

pub loop-i-init : goal.loop-i-init
loop-i-init c = look _ _ _ c.requires.0

pub returns-then-waiting-i-eq0 : goal.returns-then-waiting-i-eq0
returns-then-waiting-i-eq0 c = look-found c.loop-i.invariant c.loop-i-test.true c.if-waiting-i-eq0.true

pub loop-i-preserved : goal.loop-i-preserved
loop-i-preserved c = look-on c.loop-i.invariant c.loop-i-test.true c.if-waiting-i-eq0.false

pub returns : goal.returns
returns c = look-end c.loop-i.invariant c.loop-i-test.false
