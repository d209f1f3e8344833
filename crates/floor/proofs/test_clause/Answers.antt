-- `floor::test_clause` meets its contract. Assumes nothing.
use Rattle.floor.proofs.Turns.{judged-none, judged-wrong, judged-more}
use Rattle.floor.specs.Place.{judged}
use native.Mathlib.Omega.{arith}
use mathlib.Core.Path.{◌≡◌, refl, sym, ap, ◌∙◌}
use Rattle.floor.proofs.test_clause.Goals as goal

pub returns-then-is_wrong : goal.returns-then-is_wrong
returns-then-is_wrong c =
    let l = c.loop-i in
    let s = c.args in
    sym (judged-wrong s.work.now s.net s.arena l.i l.top (omega arith) (rw (← c.literal-l.ensures) (sym c.is_wrong.ensures ∙ c.if-is_wrong.true))) ∙ l.invariant

pub loop-i-preserved : goal.loop-i-preserved
loop-i-preserved c =
    let l = c.loop-i in
    let s = c.args in
    let more = judged-more s.work.now s.net s.arena l.i l.top (omega arith) (rw (← c.literal-l.ensures) (sym c.is_wrong.ensures ∙ c.if-is_wrong.false)) in
    rw (c.later-top.ensures, c.literal-l.ensures) (sym more ∙ l.invariant)

pub returns : goal.returns
returns c =
    let l = c.loop-i in
    let s = c.args in
    sym (judged-none s.work.now s.net s.arena l.i l.top (omega arith)) ∙ l.invariant
