-- `analysis::descend` meets its contract. Assumes nothing.
use Rattle.analysis.proofs.Turns.{left_by, descended-none, descended-stop, descended-more}
use Rattle.analysis.specs.Analysis.{descended}
use lib.ListN as N
use native.Mathlib.Omega.{arith}
use mathlib.Core.Path.{◌≡◌, refl, sym, ◌∙◌}
use Rattle.analysis.proofs.descend.Goals as goal

pub returns-then-b-le1 : goal.returns-then-b-le1
returns-then-b-le1 c =
    let l = c.loop-t in
    let s = c.args in
    left_by (sym (descended-stop l.work s.net s.arena l.b s.level s.step l.t (omega arith)) ∙ l.invariant)

pub loop-t-preserved : goal.loop-t-preserved
loop-t-preserved c =
    let l = c.loop-t in
    let s = c.args in
    let more = descended-more l.work s.net s.arena l.b s.level s.step l.t (omega arith) (omega arith) in
    let u = c.visit-b in
    rw (u.ensures.words, u.ensures.now) (sym more ∙ l.invariant)

pub returns : goal.returns
returns c =
    let l = c.loop-t in
    let s = c.args in
    left_by (sym (descended-none l.work s.net s.arena l.b s.level s.step l.t (omega arith)) ∙ l.invariant)
