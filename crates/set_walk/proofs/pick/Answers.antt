use Rattle.std.proofs.Common.{arith}
use Rattle.diagrams.specs.States.{state_of}
use Rattle.set_walk.specs.Start.{pick_one}
use Rattle.set_walk.proofs.Picks.{full-leaves, pick-past, pick-none, pick_true, pick-false}
use Rattle.set_walk.proofs.pick.Goals as goal

pub returns-then-bits-at : goal.returns-then-bits-at
returns-then-bits-at c =
    let a = c.args in
    pick-past a.e a.v a.bits.now (state_of a.w.now) c.if-bits-at.true

pub returns-in_err-d : goal.returns-in_err-d
returns-in_err-d c =
    let a = c.args in
    full-leaves c.without.new.w c.from_residual.result a.bits.now (pick_one a.e a.v a.bits.now (state_of a.w.now)) c.from_residual.ensures.0
    (pick-none a.e a.v a.bits.now (state_of a.w.now) (omega (arith, c.if-bits-at.false)) (state_of c.without.new.w) c.in_err-d.ensures)

pub returns-then-d-eq0 : goal.returns-then-d-eq0
returns-then-d-eq0 c =
    let a = c.args in
    pick_true a.e a.v a.bits.now (state_of a.w.now) (omega (arith, c.if-bits-at.false)) (state_of c.without.new.w) c.in_ok-d.d
    c.in_ok-d.ensures c.if-d-eq0.true

pub returns : goal.returns
returns c =
    let a = c.args in
    pick-false a.e a.v a.bits.now (state_of a.w.now) (omega (arith, c.if-bits-at.false)) (state_of c.without.new.w) c.in_ok-d.d
    c.in_ok-d.ensures c.if-d-eq0.false
