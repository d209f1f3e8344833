-- Each turn looks at a gate. Assumes nothing.
use native.Mathlib.Omega.{arith}
use Rattle.simulation.proofs.Nets.{net-held}
use Rattle.simulation.proofs.FirstUses.{unused-more}
use Rattle.simulation.proofs.first_use.Goals as goal

pub overflow_cast-free : goal.overflow_cast-free
overflow_cast-free c = omega (arith, c.requires.netlist.2.sized)

pub loop-k-init : goal.loop-k-init
loop-k-init c = λ v h l. absurd (omega arith)

pub uses-requires : goal.uses-requires
uses-requires c = net-held c.requires.netlist.2 c.loop-k.k (omega arith)

pub returns-then-uses : goal.returns-then-uses
returns-then-uses c = (omega arith, record { gates = omega arith; most = omega arith; unused = c.loop-k.invariant })

pub loop-k-preserved : goal.loop-k-preserved
loop-k-preserved c = unused-more c.args.work.now c.args.low c.args.g.free c.loop-k.k c.loop-k.invariant (c.uses.ensures c.if-uses.false)

pub returns : goal.returns
returns c = (omega arith, record { gates = omega arith; most = omega arith; unused = λ v h l. c.loop-k.invariant v h (omega arith) })
