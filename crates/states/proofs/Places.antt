-- Where records of k words stand. Assumes nothing.
use mathlib.Core.Path.{◌≡◌, refl, sym, ap, ◌∙◌}
use Prim.Native.Nat.{ℕ, suc, ◌+◌, ◌*◌, ◌≤◌, ◌<◌}
use native.Mathlib.Nat.{mul-suc, mul-le-mul_left}
use native.Mathlib.Decide.{dec_lt}
use native.Mathlib.Omega.{arith}

-- a record ends before those after it
pub record-before : (k i n : ℕ) → i < n → k * i + k ≤ k * n
record-before k i n l = let a : k * suc i ≤ k * n = mul-le-mul_left k (omega arith) in omega (arith, mul-suc k i)

pub record-order : (k i n : ℕ) → i ≤ n → k * i ≤ k * n
record-order k i n l = mul-le-mul_left k l

-- two places within records are one only if record and word are
pub place_same : (k i f j g : ℕ) → f < k → g < k → k * i + f ≡ k * j + g → (i ≡ j) × (f ≡ g)
place_same k i f j g a b e = elim (dec_lt i j) [
  | yes l ↦ absurd (omega (arith, record-before k i j l))
  | no l ↦ elim (dec_lt j i) [
    | yes m ↦ absurd (omega (arith, record-before k j i m))
    | no m ↦ let q : i ≡ j = omega arith in (q, omega (arith, ap (λ (x : ℕ). k * x) q))
  ]
]

-- no word of a record but its first is a head
pub not-head : (k i f h : ℕ) → 0 < f → f < k → k * i + f ≡ k * h → ⊥
not-head k i f h a b e = let q = (place_same k i f h 0 b (omega arith) (e ∙ omega arith)).1 in omega arith

pub head-same : (k g h : ℕ) → 0 < k → k * g ≡ k * h → g ≡ h
head-same k g h a e = (place_same k g 0 h 0 a a (omega arith)).0
