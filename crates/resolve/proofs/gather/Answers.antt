-- `resolve::gather` meets its contract. Assumes nothing.
use Rattle.resolve.proofs.Turns.{left_by, gathered_none, gathered-more}
use Rattle.resolve.specs.Draft.{gathered}
use lib.ListN.{length}
use native.Mathlib.Omega.{arith}
use mathlib.Core.Path.{◌≡◌, refl, sym, ◌∙◌}
use Rattle.resolve.proofs.gather.Goals as goal

pub loop-i-preserved : goal.loop-i-preserved
loop-i-preserved c =
    let l = c.loop-i in
    let s = c.args in
    let more = gathered-more l.work s.net s.arena l.e s.r s.x l.i (omega arith) in
    let j = c.join-e in
    rw (j.ensures.words, j.ensures.draft, c.literal_of-l.ensures) (sym more ∙ l.invariant)

pub returns : goal.returns
returns c =
    let l = c.loop-i in
    let s = c.args in
    let none = gathered_none l.work s.net s.arena l.e s.r s.x l.i (omega arith) in
    rw (← c.length_of-n.ensures) (left_by (sym none ∙ l.invariant))
