-- Tests over lists and over the numbers below a bound. Assumes nothing.
use Rattle.std.specs.Prelude.{Bool, true, false, not, cond, ◌&&◌, ◌||◌, List, [], ◌∷◌, ℕ, zero, suc, ◌+◌, eqb}
use Rattle.std.proofs.Math.Option.{Option, none, some}

-- every element passes
abbrev pub every : {A : Type 0} → (A → Bool) → List A → Bool
every p [] = true
every p (x ∷ xs) = p x && every p xs

-- some element passes
abbrev pub any : {A : Type 0} → (A → Bool) → List A → Bool
any p [] = false
any p (x ∷ xs) = p x || any p xs

-- every test passes
abbrev pub all : List Bool → Bool
all [] = true
all (b ∷ bs) = b && all bs

-- how many elements pass
abbrev pub tally : {A : Type 0} → (A → Bool) → List A → ℕ
tally p [] = 0
tally p (x ∷ xs) = cond (p x) 1 0 + tally p xs

-- p holds of each element with each one after it
abbrev pub pairwise : {A : Type 0} → (A → A → Bool) → List A → Bool
pairwise p [] = true
pairwise p (x ∷ xs) = every (p x) xs && pairwise p xs

-- no element stands twice
abbrev pub distinct : List ℕ → Bool
distinct xs = pairwise (λ x y. not (eqb x y)) xs

abbrev pub member : ℕ → List ℕ → Bool
member x [] = false
member x (y ∷ ys) = eqb x y || member x ys

-- two lists of numbers are the same
abbrev pub same : List ℕ → List ℕ → Bool
same [] [] = true
same [] (y ∷ ys) = false
same (x ∷ xs) [] = false
same (x ∷ xs) (y ∷ ys) = eqb x y && same xs ys

-- every number below n passes
abbrev pub every_below : ℕ → (ℕ → Bool) → Bool
every_below zero p = true
every_below (suc n) p = every_below n p && p n

-- the last number below n that passes
unfoldable pub last_below : (ℕ → Bool) → ℕ → Option ℕ
last_below p zero = none
last_below p (suc n) = cond (p n) (some n) (last_below p n)

-- n numbers from i on
abbrev pub from : ℕ → ℕ → List ℕ
from i zero = []
from i (suc n) = i ∷ from (suc i) n

-- 0 to n - 1
abbrev pub upto : ℕ → List ℕ
upto n = from 0 n
