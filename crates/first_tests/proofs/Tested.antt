-- What is answered where the first tests pass, and where one of them fails. Assumes nothing.
use mathlib.Core.Path.{◌≡◌, refl, sym, ap, ◌∙◌}
use mathlib.Core.List.{List}
use Prim.Native.Nat.{ℕ}
use native.Mathlib.Omega.{arith}
use Rattle.aiger.specs.Load.{Answer, refused, gives}
use Rattle.aiger.specs.Operations.{Test, judge}
use Rattle.first_tests.specs.Tested.{Tested}

pub never : {A : Type 0} {n : ℕ} {a : A} → refused n ≡ gives a → ⊥
never e = let z : ◌≡◌ {A = ℕ} 0 1 = cc in omega arith

pub refused-same : {A : Type 0} {n k : ℕ} → ◌≡◌ {A = Answer A} (refused n) (refused k) → n ≡ k
refused-same e = cc

-- where all pass, the operation answers
pub passed : {A S : Type 0} {tests : List Test} {lent : S} {P : Answer A → S → Type 0} {a : Answer A} {s : S} → judge tests ≡ gives tt
    → Tested tests lent P a s → P a s
passed e (Tested.refuses h) = absurd (never (sym h ∙ e))
passed e (Tested.passes h p) = p

-- where one fails, it refuses, and what was lent is left
pub failed : {A S : Type 0} {tests : List Test} {lent : S} {P : Answer A → S → Type 0} {a : Answer A} {s : S} {n : ℕ} → judge tests ≡ refused n
    → Tested tests lent P a s → (a ≡ refused n) × (s ≡ lent)
failed e (Tested.refuses h) = (ap refused (refused-same (sym h ∙ e)), refl)
failed e (Tested.passes h p) = absurd (never (sym e ∙ h))

-- two calls with the same first tests have one answer, where the operation has
pub tested-same : {A S : Type 0} {tests : List Test} {lent lent' : S} {P Q : Answer A → S → Type 0} (R : S → S → Type 0) → R lent lent'
    → ((x y : Answer A) (s t : S) → P x s → Q y t → (x ≡ y) × R s t)
    → (x y : Answer A) (s t : S) → Tested tests lent P x s → Tested tests lent' Q y t → (x ≡ y) × R s t
tested-same R r f x y s t (Tested.refuses h) (Tested.refuses k) = (ap refused (refused-same (sym h ∙ k)), r)
tested-same R r f x y s t (Tested.refuses h) (Tested.passes k q) = absurd (never (sym h ∙ k))
tested-same R r f x y s t (Tested.passes h p) (Tested.refuses k) = absurd (never (sym k ∙ h))
tested-same R r f x y s t (Tested.passes h p) (Tested.passes k q) = f x y s t p q
