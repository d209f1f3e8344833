use Rattle.diagrams.specs.Words as W
use Rattle.diagrams.specs.States as S
use Rattle.diagrams.proofs.Follow.{full-left, made-same, made-edge, made-full}
use Rattle.diagrams.proofs.node.Goals as goal

pub returns-then-lo-hi : goal.returns-then-lo-hi
returns-then-lo-hi c = let a = c.args in made-same (S.state_of a.w.now) a.v a.lo a.hi c.if-lo-hi.true

pub returns-in_err-e : goal.returns-in_err-e
returns-in_err-e c =
    let a = c.args in
    full-left c.find_or_append.new.w c.from_residual.result (S.made (S.state_of a.w.now) a.v a.lo a.hi) c.from_residual.ensures.0
    (made-full (S.state_of a.w.now) a.v a.lo a.hi c.flip.result c.flip-2.result c.if-lo-hi.false c.flip.ensures c.flip-2.ensures
    (S.state_of c.find_or_append.new.w) c.in_err-e.ensures)

pub returns : goal.returns
returns c =
    let a = c.args in
    made-edge (S.state_of a.w.now) a.v a.lo a.hi c.flip.result c.flip-2.result c.if-lo-hi.false c.flip.ensures c.flip-2.ensures
    (S.state_of c.find_or_append.new.w) c.in_ok-e.e c.flip-3.result c.in_ok-e.ensures c.flip-3.ensures
