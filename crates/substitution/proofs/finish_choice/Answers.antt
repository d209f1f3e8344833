use Rattle.diagrams.specs.Words.{flip}
use Rattle.diagrams.specs.States.{state_of}
use Rattle.diagrams.proofs.Follow.{full-left}
use Rattle.substitution.specs.Substitution as T
use Rattle.substitution.proofs.Follow.{choice-full, choice-kept}
use Rattle.substitution.proofs.finish_choice.Goals as goal

pub returns-in_err-r : goal.returns-in_err-r
returns-in_err-r c =
    let a = c.args in
    full-left c.choice.new.w c.from_residual.result
    (T.complement_if a.e (T.finished_choice (state_of a.w.now) a.x a.hi a.lo (flip a.e a.e) a.tag)) c.from_residual.ensures.0
    (choice-full (state_of a.w.now) a.x a.hi a.lo a.e a.tag (state_of c.choice.new.w) c.in_err-r.ensures)

pub returns : goal.returns
returns c =
    let a = c.args in
    choice-kept (state_of a.w.now) a.x a.hi a.lo a.e a.tag (state_of c.choice.new.w) (state_of c.keep.new.w) c.in_ok-r.r c.flip.result
    c.mark.result c.flip-2.result c.in_ok-r.ensures c.flip.ensures c.mark.ensures c.keep.ensures c.flip-2.ensures
