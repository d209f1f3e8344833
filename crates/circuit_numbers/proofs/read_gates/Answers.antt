-- `circuit_numbers::read_gates` meets its contract. Assumes nothing.
use mathlib.Core.Path.{◌≡◌, subst}
use Prim.Native.Nat.{ℕ}
use native.Mathlib.Omega.{arith}
use Rattle.circuit_numbers.specs.Numbers.{Read}
use Rattle.circuit_numbers.proofs.Laws.{start-read, read_more}
use Rattle.circuit_numbers.proofs.read_gates.Goals as goal

pub loop-i-init : goal.loop-i-init
loop-i-init c = start-read c.args.m.now c.args.first c.args.vars.now c.args.ops.now

pub loop-i-preserved : goal.loop-i-preserved
loop-i-preserved c =
    read_more (omega (arith, c.loop-i.auto.vars, c.requires.1)) (omega (arith, c.loop-i.auto.ops, c.requires.2)) c.loop-i.invariant

pub returns : goal.returns
returns c =
    let a = c.args in
    let e : c.loop-i.i ≡ a.n = omega arith in
    subst (λ (n : ℕ). Read a.m.now a.first n c.loop-i.vars c.loop-i.ops) e c.loop-i.invariant
