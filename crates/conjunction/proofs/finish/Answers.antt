use Rattle.diagrams.specs.States.{state_of, finished}
use Rattle.diagrams.proofs.Follow.{full-left}
use Rattle.conjunction.proofs.Follow.{finished-edge, finished-full}
use Rattle.conjunction.proofs.finish.Goals as goal

pub returns-in_err-e : goal.returns-in_err-e
returns-in_err-e c =
    let a = c.args in
    full-left c.node.new.w c.from_residual.result (finished (state_of a.w.now) a.v a.lo a.hi a.f a.g a.h) c.from_residual.ensures.0
    (finished-full (state_of a.w.now) a.v a.lo a.hi a.f a.g a.h (state_of c.node.new.w) c.in_err-e.ensures)

pub returns : goal.returns
returns c =
    let a = c.args in
    finished-edge (state_of a.w.now) a.v a.lo a.hi a.f a.g a.h (state_of c.node.new.w) (state_of c.keep.new.w) c.in_ok-e.e c.in_ok-e.ensures
    c.keep.ensures
