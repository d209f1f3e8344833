-- `circuit::are_zeros` meets its contract: the words passed are 0. Assumes nothing.
use native.Mathlib.Omega.{arith}
use Rattle.circuit.specs.Held.{Zeros}
use Rattle.circuit.proofs.Testing.{zeros-more}
use Rattle.circuit.proofs.are_zeros.Goals as goal

pub loop-i-init : goal.loop-i-init
loop-i-init c = λ i a b. absurd (omega arith)

pub returns-then-m-i-ne0 : goal.returns-then-m-i-ne0
returns-then-m-i-ne0 c = λ z. c.if-m-i-ne0.true (z c.loop-i.i (omega arith) (omega arith))

pub loop-i-preserved : goal.loop-i-preserved
loop-i-preserved c = zeros-more c.args.m.now _ _ c.loop-i.invariant c.if-m-i-ne0.false

pub returns : goal.returns
returns c = λ i a b. c.loop-i.invariant i a (omega arith)
