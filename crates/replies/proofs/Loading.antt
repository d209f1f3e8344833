-- What load leaves, and answers of tests. Assumes nothing.
use mathlib.Core.Path.{◌≡◌, refl}
use mathlib.Core.Bool.{Bool, true, false}
use mathlib.Core.List.{List}
use Prim.Native.Nat.{ℕ}
use native.Mathlib.Omega.{arith}
use Rattle.aiger.specs.Load.{Answer, refused, gives, test, ◌>>◌}
use Rattle.aiger.specs.Operations.{Loaded}
use Rattle.replies.specs.Loading.{loaded_words}

-- the words that load leaves
pub loaded-words : {m f m' : List ℕ} {a : Answer (List ℕ)} → Loaded m f a m' → m' ≡ loaded_words m f
loaded-words (Loaded.refuses e) = rw e
loaded-words (Loaded.stores c e) = rw e

-- a refusal with another number than n is not that of test n
pub past : {A : Type 0} (n m : ℕ) (b : Bool) (r : Answer A) → (n ≡ m → ⊥) → (test n b >> r) ≡ refused m → (b ≡ true) × (r ≡ refused m)
past n m true r h e = (refl, e)
past n m false r h e = let z : n ≡ m = cc in absurd (h z)

pub given : {A : Type 0} {a : A} {m : ℕ} → gives a ≡ refused m → ⊥
given e = let z : ◌≡◌ {A = ℕ} 0 1 = cc in omega arith
