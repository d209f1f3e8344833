-- `watches::find` meets its contract. Assumes nothing.
use Rattle.watches.proofs.Turns.{found_none, found_here, found-more}
use Prim.Native.Nat.{ℕ}
use Rattle.std.specs.Prelude.{Some}
use Rattle.watches.specs.Watch.{found}
use native.Mathlib.Omega.{arith}
use mathlib.Core.Path.{◌≡◌, refl, sym, ap, ◌∙◌}
use Rattle.watches.proofs.find.Goals as goal

pub returns-then-can_watch : goal.returns-then-can_watch
returns-then-can_watch c =
    let s = c.args in
    let x = c.kept_literal-x.ensures in
    ap (λ (y : ℕ). Some y) x ∙ sym (found_here s.work.now s.net s.c s.o c.loop-i.i (omega arith)
    (rw (← x) (sym c.can_watch.ensures ∙ c.if-can_watch.true))) ∙ c.loop-i.invariant

pub loop-i-preserved : goal.loop-i-preserved
loop-i-preserved c =
    let s = c.args in
    sym (found-more s.work.now s.net s.c s.o c.loop-i.i (omega arith)
    (rw (← c.kept_literal-x.ensures) (sym c.can_watch.ensures ∙ c.if-can_watch.false))) ∙ c.loop-i.invariant

pub returns : goal.returns
returns c =
    let s = c.args in
    sym (found_none s.work.now s.net s.c s.o c.loop-i.i (omega arith)) ∙ c.loop-i.invariant
