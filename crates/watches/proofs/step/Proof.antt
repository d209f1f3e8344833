-- `watches::step` meets its contract. Assumes nothing.
use borrow.Author.Tests.{eq-eqb, le-leb, lt-leb, ne_eqb}
use Rattle.watches.specs.Watch as W
use mathlib.Core.Path.{refl, sym, subst}
use Rattle.watches.proofs.Turns.{side-two}
use Prim.Native.Nat.{ℕ, ◌<◌}
use borrow.Author.Rules.{rules}
use Rattle.watches.proofs.step.Statement.{statement}
use Rattle.watches.proofs.step.Tie as tie

returns : tie.Need-returns-then-arena-t
unfolding W.stepped
returns c = rw (le-leb _ _ c.if-arena-t.true) (record { words = refl; state = refl })

returns-2 : tie.Need-returns-then-t-ge1073741823
unfolding W.stepped
returns-2 c = rw (lt-leb _ _ c.if-arena-t.false, le-leb _ _ c.if-t-ge1073741823.true) (record { words = refl; state = refl })

returns-3 : tie.Need-returns-then-t-ne-UNDEF
unfolding W.stepped
returns-3 c = rw (
  lt-leb _ _ c.if-arena-t.false,
  lt-leb _ _ c.if-t-ge1073741823.false,
  ne_eqb _ _ c.if-t-ne-UNDEF.true,
) (record { words = refl; state = refl })

turn-requires : tie.Need-turn-requires
turn-requires c κs =
    let s = c.args in (
      c.if-t-ge1073741823.false,
      subst (λ (k : ℕ). k < 2) (sym c.side-s.ensures) (side-two s.work.now s.net.words s.t.clause s.f),
    )

returns-4 : tie.Need-returns
unfolding W.stepped
returns-4 c = rw (
  ← c.side-s.ensures,
  lt-leb _ _ c.if-arena-t.false,
  lt-leb _ _ c.if-t-ge1073741823.false,
  eq-eqb _ _ c.if-t-ne-UNDEF.false,
) c.turn.ensures

pub step_spec : {M : Type 1} → statement M
step_spec = tie.close (tie.spec returns returns-2 returns-3 (λ c κs. search rules) turn-requires (λ c. search rules) returns-4)
