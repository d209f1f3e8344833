use Rattle.diagrams.specs.States.{state_of}
use Rattle.diagrams.proofs.Follow.{full-left}
use Rattle.conjunction.specs.Conjunction as C
use Rattle.conjunction.proofs.Follow.{either_edge, either-full}
use Rattle.conjunction.proofs.either.Goals as goal

pub returns-in_err-e : goal.returns-in_err-e
returns-in_err-e c =
    let a = c.args in
    full-left c.both.new.w c.from_residual.result (C.either (state_of a.w.now) a.f a.g) c.from_residual.ensures.0
    (either-full (state_of a.w.now) a.f a.g c.flip.result c.flip-2.result c.flip.ensures c.flip-2.ensures (state_of c.both.new.w)
    c.in_err-e.ensures)

pub returns : goal.returns
returns c =
    let a = c.args in
    either_edge (state_of a.w.now) a.f a.g c.flip.result c.flip-2.result c.flip.ensures c.flip-2.ensures (state_of c.both.new.w) c.in_ok-e.e
    c.flip-3.result c.in_ok-e.ensures c.flip-3.ensures
