-- `analysis::expand_from` meets its contract. Assumes nothing.
use Rattle.resolve.proofs.Turns.{left_by}
use Rattle.analysis.proofs.Turns.{expanded-none, expanded-more}
use Rattle.analysis.specs.Analysis.{expanded_from}
use lib.ListN as N
use native.Mathlib.Omega.{arith}
use mathlib.Core.Path.{◌≡◌, refl, sym, ◌∙◌}
use Rattle.analysis.proofs.expand_from.Goals as goal

pub loop-t-preserved : goal.loop-t-preserved
loop-t-preserved c =
    let l = c.loop-t in
    let s = c.args in
    let more = expanded-more l.work s.net s.arena l.e l.t (omega arith) in
    let u = c.expand-e in
    rw (u.ensures.words, u.ensures.draft) (sym more ∙ l.invariant)

pub returns : goal.returns
returns c =
    let l = c.loop-t in
    let s = c.args in
    left_by (sym (expanded-none l.work s.net s.arena l.e l.t (omega arith)) ∙ l.invariant)
