-- The number that words make as binary digits. Assumes nothing.
use mathlib.Core.Path.{◌≡◌, refl, sym, ap, ap₂, ◌∙◌, subst}
use mathlib.Core.Bool.{Bool, true, false, cond}
use mathlib.Core.List.{List}
use Prim.Native.Nat.{ℕ, zero, suc, ◌+◌, ◌-◌, ◌*◌, ◌/◌, ◌%◌, ◌^◌, ◌≤◌, ◌<◌, min}
use native.Mathlib.Nat.{div-div-eq-div-mul, div-eq_of_lt, pow-suc, pow-zero, div-one}
use native.Mathlib.Omega.{arith}
use lib.ListN.{get_or}
use Rattle.aiger.specs.Bits.{nonzero, odd, bit}
use Rattle.aiger.specs.Frames.{free_bit}
use Rattle.enumeration.specs.Frame.{FreeBits}
use Rattle.place_decision.specs.Decided.{number_of}

pub number-none : (bits : List ℕ) → number_of bits 0 ≡ 0
unfolding number_of
number-none bits = refl

-- one digit more, below 2 to the power 63 or not
pub number_more : (bits : List ℕ) (j x d r : ℕ) → x ≡ min 9223372036854775808 (number_of bits j) → d ≡ get_or bits j 0
    → r ≡ min 9223372036854775808 (2 * x + cond (nonzero d) 1 0) → r ≡ min 9223372036854775808 (number_of bits (j + 1))
unfolding number_of
number_more bits j x d r e f g =
    let s : j + 1 ≡ suc j = omega arith in
    let h : ◌≡◌ {A = ℕ} (cond (nonzero d) 1 0) (cond (nonzero (get_or bits j 0)) 1 0) = ap (λ (k : ℕ). cond {A = ℕ} (nonzero k) 1 0) f in
    omega (arith, e, g, h, ap (number_of bits) s, more)
  where
    more : number_of bits (suc j) ≡ 2 * number_of bits j + cond (nonzero (get_or bits j 0)) 1 0
    more = refl

-- one digit
pub next-zero : (x d : ℕ) → d ≡ 0 → x < 4611686018427387904 → 2 * x ≡ min 9223372036854775808 (2 * x + cond (nonzero d) 1 0)
next-zero x zero e l = omega arith
next-zero x (suc d) e l = absurd (omega arith)

pub next_one : (x d : ℕ) → (d ≡ 0 → ⊥) → x < 4611686018427387904 → 2 * x + 1 ≡ min 9223372036854775808 (2 * x + cond (nonzero d) 1 0)
next_one x zero e l = absurd (e refl)
next_one x (suc d) e l = omega arith

parity : (u : ℕ) → ◌≡◌ {A = ℕ} (cond (odd u) 1 0) (u % 2)
parity u = go (u % 2) (omega arith)
  where
    go : (r : ℕ) → r < 2 → ◌≡◌ {A = ℕ} (cond (nonzero r) 1 0) r
    go zero h = refl
    go (suc r) h = omega arith

-- the first v of the free bits of x make the number x has before its last n - v digits
number-prefix : (bits : List ℕ) (n x : ℕ) → x < 2 ^ n → FreeBits n x bits → (v : ℕ) → v ≤ n → number_of bits v ≡ x / 2 ^ (n - v)
unfolding number_of bit
number-prefix bits n x small free zero l =
    let e : n - 0 ≡ n = omega arith in
    sym (ap (λ (k : ℕ). x / 2 ^ k) e ∙ div-eq_of_lt small)
number-prefix bits n x small free (suc v) l =
    let i = n - suc v in
    let e : n - v ≡ suc i = omega arith in
    let s : n - (v + 1) ≡ i = omega arith in
    let half : x / 2 ^ (n - v) ≡ x / 2 ^ i / 2 =
    ap (λ (k : ℕ). x / 2 ^ k) e ∙ ap (λ (y : ℕ). x / y) (pow-suc 2 i) ∙ sym (div-div-eq-div-mul x (2 ^ i) 2) in
    let d : ◌≡◌ {A = ℕ} (cond (nonzero (get_or bits v 0)) 1 0) (x / 2 ^ i % 2) =
    ap (λ (b : Bool). cond {A = ℕ} b 1 0) (free v (omega arith) ∙ ap (λ (k : ℕ). odd (x / 2 ^ k)) s) ∙ parity (x / 2 ^ i) in
    omega (arith, number-prefix bits n x small free v (omega arith), half, d)

-- the free bits of x make x
pub number_is : (bits : List ℕ) (n x : ℕ) → x < 2 ^ n → FreeBits n x bits → number_of bits n ≡ x
number_is bits n x small free =
    let e : n - n ≡ 0 = omega arith in
    number-prefix bits n x small free n (omega arith) ∙ ap (λ (k : ℕ). x / 2 ^ k) e ∙ ap (λ (k : ℕ). x / k) (pow-zero 2) ∙ div-one x
