-- Each turn writes a word. Assumes nothing.
use mathlib.Core.Path.{◌≡◌, ◌∙◌}
use Prim.Native.Nat.{ℕ, ◌+◌, ◌<◌}
use native.Mathlib.Omega.{arith}
use borrow.Author.Count.{below_more}
use lib.ListN.{length, get_or, set}
use lib.Seq.{get_or-set_same, get_or-set_other}
use Rattle.states.proofs.copy.Goals as goal

pub loop-i-preserved : goal.loop-i-preserved
loop-i-preserved c =
    let a = c.args in
    let v = get_or a.s.now c.loop-i.i 0 in
    let at = a.at + c.loop-i.i in (
      below_more (λ j. get_or (set c.loop-i.records at v) (a.at + j) 0 ≡ get_or a.s.now j 0) c.loop-i.i
          (λ j l. get_or-set_other c.loop-i.records at (a.at + j) v 0 (λ e. omega arith) ∙ c.loop-i.invariant.0 j l)
          (get_or-set_same c.loop-i.records at v 0 (omega arith)),
      λ j l. get_or-set_other c.loop-i.records at j v 0 (λ e. omega arith) ∙ c.loop-i.invariant.1 j l,
      λ j l. get_or-set_other c.loop-i.records at j v 0 (λ e. omega arith) ∙ c.loop-i.invariant.2 j (omega arith),
    )

pub returns : goal.returns
returns c =
    record { here = λ j l. c.loop-i.invariant.0 j (omega arith); below = c.loop-i.invariant.1; above = λ j l. c.loop-i.invariant.2 j (omega arith) }
