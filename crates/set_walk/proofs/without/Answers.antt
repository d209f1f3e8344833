use Rattle.diagrams.specs.States.{state_of}
use Rattle.diagrams.proofs.Follow.{full-left}
use Rattle.set_walk.specs.Start as S
use Rattle.set_walk.proofs.Picks.{without-none, without-edge}
use Rattle.set_walk.proofs.without.Goals as goal

pub returns-in_err-x : goal.returns-in_err-x
returns-in_err-x c =
    let a = c.args in
    full-left c.node.new.w c.from_residual.result (S.without a.e a.v (state_of a.w.now)) c.from_residual.ensures.0
    (without-none a.e a.v (state_of a.w.now) (state_of c.node.new.w) c.in_err-x.ensures)

pub returns : goal.returns
returns c =
    let a = c.args in
    without-edge a.e a.v (state_of a.w.now) (state_of c.node.new.w) c.in_ok-x.x c.flip.result _ c.flip.ensures c.in_ok-x.ensures
    c.both.ensures
