-- A run of digits: how large the number is that it stands for, and whether it is a number.
-- Assumes nothing.
use mathlib.Core.Path.{◌≡◌, refl}
use mathlib.Core.Bool.{Bool, true, false, not, ◌&&◌, ◌||◌}
use mathlib.Core.List.{List, [], ◌∷◌}
use Prim.Native.Nat.{ℕ, ◌+◌, ◌*◌, ◌^◌, ◌≤◌, ◌<◌}
use native.Mathlib.Nat.{pow-suc, pow-le-pow_right}
use native.Mathlib.Numerals.{add-one}
use native.Mathlib.Omega.{arith}
use borrow.Author.Tests.{le-leb, lt-leb, ne_eqb}
use lib.Dec.{T, eqb}
use lib.ListN.{length, get_or}
use Rattle.aiger.specs.Lists.{every}
use Rattle.aiger.specs.Text.{is_digit, is_number}
use Rattle.aiger.proofs.Tests.{true-T}

-- a total of k digits, and of one more
pub small-more : (k total d : ℕ) → total < 10 ^ k → d ≤ 9 → total * 10 + d < 10 ^ (k + 1)
small-more k total d p q = rw (add-one, pow-suc) (omega arith)

pub small-in : (k n total : ℕ) → k ≤ n → total < 10 ^ k → total < 10 ^ n
small-in k n total p q =
    let m : 10 ^ k ≤ 10 ^ n = pow-le-pow_right (omega arith) p in
    omega arith

-- whether a run is a number, by its length
pub none : (w : List ℕ) → length w ≡ 0 → is_number w ≡ false
unfolding is_number
none [] h = refl
none (d ∷ w) h = absurd (omega arith)

pub single : (w : List ℕ) → T (every is_digit w) → length w ≡ 1 → is_number w ≡ true
unfolding is_number
single w a h =
    simp (true-T (every is_digit w) a, h) (or-true (not (eqb (get_or w 0 0) 48)))
  where
    or-true : (b : Bool) → (b || true) ≡ true
    or-true true = refl
    or-true false = refl

pub several : (w : List ℕ) → T (every is_digit w) → 1 < length w → length w ≤ 10 → is_number w ≡ not (eqb (get_or w 0 0) 48)
unfolding is_number
several w a h g =
    let l : 1 ≤ length w = omega arith in
    let n : length w ≡ 1 → ⊥ = omega arith in
    simp (true-T (every is_digit w) a, le-leb _ _ l, le-leb _ _ g, ne_eqb _ _ n) (or-false (not (eqb (get_or w 0 0) 48)))
  where
    or-false : (b : Bool) → (b || false) ≡ b
    or-false true = refl
    or-false false = refl

and-false : (b : Bool) → (b && false) ≡ false
and-false true = refl
and-false false = refl

pub overlong : (w : List ℕ) → 10 < length w → is_number w ≡ false
unfolding is_number
overlong w h = simp (lt-leb _ _ h, and-false)
