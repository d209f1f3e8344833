-- The first number that passes a test. Assumes nothing.
use mathlib.Core.Path.{◌≡◌, refl, ap, ◌∙◌, subst}
use mathlib.Core.Bool.{Bool, true, false, cond}
use mathlib.Core.Option.{Option, none, some}
use mathlib.Core.Logic.{⊎_elim}
use Prim.Native.Nat.{ℕ, zero, suc, ◌≤◌, ◌<◌}
use native.Mathlib.Nat.{eq-or-lt_of_le, le_of_suc-le-suc, not-suc-le-zero}
use native.Mathlib.Omega.{arith}
use lib.Dec.{T}
use Rattle.aiger.proofs.Tests.{T_true}
use Rattle.machine.specs.Layers.{least_below}
use Rattle.meaning.proofs.Decisions.{Least, least-below}

-- what is the first is what is found
pub first-is : (p : ℕ → Bool) (n x : ℕ) → x < n → T (p x) → ((y : ℕ) → y < x → T (p y) → ⊥) → least_below n p ≡ some x
first-is p n x l h f = go (least_below n p) (least-below p n)
  where
    go : (o : Option ℕ) → Least p n o → o ≡ some x
    go (some z) (zl, zh, zf) =
        let a : z < x → ⊥ = λ k. f z k zh in
        let b : x < z → ⊥ = λ k. zf x k h in
        ap some (omega arith)
    go none k = absurd (k x l h)

-- where none passes none is found
pub none_is : (p : ℕ → Bool) (n : ℕ) → ((y : ℕ) → y < n → T (p y) → ⊥) → least_below n p ≡ none
none_is p n f = go (least_below n p) (least-below p n)
  where
    go : (o : Option ℕ) → Least p n o → o ≡ none
    go (some z) (zl, zh, zf) = absurd (f z zl zh)
    go none k = refl
