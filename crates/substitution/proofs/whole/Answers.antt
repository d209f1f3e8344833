use Rattle.diagrams.specs.States.{state_of}
use Rattle.diagrams.proofs.Follow.{full-left}
use Rattle.substitution.specs.Substitution as T
use Rattle.substitution.proofs.Follow.{whole-first, whole-second, whole-third}
use Rattle.substitution.proofs.whole.Goals as goal

pub returns-in_err-p : goal.returns-in_err-p
returns-in_err-p c =
    let a = c.args in
    full-left c.both.new.w c.from_residual.result (T.whole (state_of a.w.now) a.f a.g a.h) c.from_residual.ensures.0
    (whole-first (state_of a.w.now) a.f a.g a.h (state_of c.both.new.w) c.in_err-p.ensures)

pub returns-in_err-q : goal.returns-in_err-q
returns-in_err-q c =
    let a = c.args in
    full-left c.both-2.new.w c.from_residual-in_err-q.result (T.whole (state_of a.w.now) a.f a.g a.h) c.from_residual-in_err-q.ensures.0
    (whole-second (state_of a.w.now) a.f a.g a.h c.flip.result c.flip.ensures (state_of c.both.new.w) c.in_ok-p.p c.in_ok-p.ensures
    (state_of c.both-2.new.w) c.in_err-q.ensures)

pub returns : goal.returns
returns c =
    let a = c.args in
    whole-third (state_of a.w.now) a.f a.g a.h c.flip.result c.flip.ensures (state_of c.both.new.w) c.in_ok-p.p c.in_ok-p.ensures
    (state_of c.both-2.new.w) c.in_ok-q.q c.in_ok-q.ensures _ c.either.ensures
