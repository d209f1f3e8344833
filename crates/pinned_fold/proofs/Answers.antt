-- From the answer of the fold of the pinned circuit to the answer for the user. Assumes nothing.
use mathlib.Core.Path.{◌≡◌, sym, subst}
use mathlib.Core.List.{List}
use Prim.Native.Nat.{ℕ, ◌≤◌}
use lib.ListN.{length}
use Rattle.aiger.specs.Circuit.{Circuit}
use Rattle.aiger.specs.Load.{Answer, refused, gives}
use Rattle.aiger.specs.Memory.{Holds}
use Rattle.aiger.specs.Operations.{judge, Operated, fold_tests, Folded}
use Rattle.layout.specs.Words.{circuit_in}
use Rattle.layout.specs.declared.Layout.{Layout}
use Rattle.pins.specs.Pins.{pins_of, pinned}
use Rattle.pinning.specs.Operations.{PinnedFolded, PinnedFoldEffect}
use Rattle.pinning.proofs.Tests.{acts-only, fold-pinned}
use Rattle.fold.specs.Chosen.{chosen}
use Rattle.pinned_fold.specs.Steps.{FoldFits, FoldIs}

module _ {m : List ℕ} {p : Layout} {user b t room len : ℕ} (f : FoldFits m p user b t room len) where
  -- the fold of words that hold the pinned circuit
  pub fold_is : (q : ℕ → ℕ) {words w w' out out' : List ℕ} {a : Answer ℕ} → length w ≡ room → length out ≡ len → Holds words (pinned (circuit_in m) q)
      → Folded chosen words b t w out a w' out' → FoldIs (circuit_in m) q b t out a out'
  fold_is q {words} {w} {w'} {out} {out'} {a} e l h s =
      let j = fold-pinned (circuit_in m) q b t room len f.tests in
      let k : judge (fold_tests (pinned (circuit_in m) q) b t (length w) (length out)) ≡ gives tt = rw (e, l) j in
      let r = acts-only {tests = λ d. fold_tests d b t (length w) (length out)} h k s in
      record { length-of = r.0; says = r.1; work = w'; effect = r.2 }

module _ {m : List ℕ} (q : ℕ → ℕ) (h : Holds m (circuit_in m)) {b t : ℕ} {w out : List ℕ} where
  pub answered-with : judge (fold_tests (circuit_in m) b t (length w) (length out)) ≡ gives tt → {a : Answer ℕ} {w' out' : List ℕ}
      → FoldIs (circuit_in m) q b t out a out' → PinnedFolded chosen m q b t w out a (w', out')
  answered-with j {a} {w'} {out'} x =
      let e = x.effect in
      acted x.says
      (Operated.acts (circuit_in m) h j (record { permitted = e.permitted; short = e.short; count = e.count; shows = e.shows }))
    where
      acted : {n : ℕ} {y : Answer ℕ} → y ≡ gives n
          → Operated m (λ d. fold_tests d b t (length w) (length out)) (w, out) (PinnedFoldEffect chosen q b t out) (gives n) (w', out')
          → Operated m (λ d. fold_tests d b t (length w) (length out)) (w, out) (PinnedFoldEffect chosen q b t out) y (w', out')
      acted e g =
          subst (λ (y : Answer ℕ).
          Operated m (λ d. fold_tests d b t (length w) (length out)) (w, out) (PinnedFoldEffect chosen q b t out) y (w', out'))
          (sym e) g

  pub refused-with : {n : ℕ} → judge (fold_tests (circuit_in m) b t (length w) (length out)) ≡ refused n
      → PinnedFolded chosen m q b t w out (refused n) (w, out)
  refused-with e = Operated.refuses (circuit_in m) h e

-- the pins of a user who is this one
pub folded-for : (pins : List ℕ) {user v : ℕ} → user ≡ v → {m : List ℕ} {b t : ℕ} {w out : List ℕ} {a : Answer ℕ} {left : List ℕ × List ℕ}
    → PinnedFolded chosen m (pins_of pins v) b t w out a left → PinnedFolded chosen m (pins_of pins user) b t w out a left
folded-for pins e {m} {b} {t} {w} {out} {a} {left} x =
    subst (λ (u : ℕ). PinnedFolded chosen m (pins_of pins u) b t w out a left) (sym e) x
