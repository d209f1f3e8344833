-- `learning::highest` meets its contract. Assumes nothing.
use Rattle.learning.proofs.Turns.{ranked-none, ranked-more}
use Rattle.learning.specs.Learning.{ranked_all}
use Prim.Native.Nat.{◌-◌}
use native.Mathlib.Omega.{arith}
use mathlib.Core.Path.{◌≡◌, refl, sym, ap, ◌∙◌}
use Rattle.learning.proofs.highest.Goals as goal

pub loop-i-preserved : goal.loop-i-preserved
loop-i-preserved c =
    let s = c.args in
    let more = ranked-more s.work.now s.net s.arena c.loop-i.i c.loop-i.best (omega arith) in
    rw (c.rank-best.ensures, c.literal-l.ensures) (sym more ∙ c.loop-i.invariant)

pub returns : goal.returns
returns c =
    let s = c.args in
    let e = sym (ranked-none s.work.now s.net s.arena c.loop-i.i c.loop-i.best (omega arith)) ∙ c.loop-i.invariant in
    e
    ∙ ap (ranked_all s.work.now s.net s.arena (s.n - 2)) (rw (
      ← c.literal-a.ensures,
      ← c.literal-b.ensures,
    ) c.rank_two-best.ensures)
