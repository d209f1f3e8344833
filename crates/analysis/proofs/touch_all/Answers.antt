-- `analysis::touch_all` meets its contract. Assumes nothing.
use Rattle.memory.proofs.Counted.{told-by}
use Rattle.analysis.proofs.Turns.{touched_none, touched-more}
use Rattle.analysis.specs.Analysis.{touched_all}
use lib.ListN as N
use native.Mathlib.Omega.{arith}
use mathlib.Core.Path.{◌≡◌, refl, sym, ◌∙◌}
use Rattle.analysis.proofs.touch_all.Goals as goal

pub loop-i-preserved : goal.loop-i-preserved
loop-i-preserved c =
    let l = c.loop-i in
    let s = c.args in
    let more = touched-more l.work s.net s.arena s.from s.level s.step l.i l.n (omega arith) in
    let u = c.touch in
    rw (
      u.ensures,
      c.tally-n.ensures,
      c.literal-v.ensures,
    ) (sym more ∙ l.invariant)

pub returns : goal.returns
returns c =
    let l = c.loop-i in
    let s = c.args in
    told-by (sym (touched_none l.work s.net s.arena s.from s.level s.step l.i l.n (omega arith)) ∙ l.invariant)
