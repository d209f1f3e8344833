-- A number by its digits, and a number without one of its bits. Assumes nothing.
use mathlib.Core.Path.{◌≡◌, refl, sym, ap, ap₂, ◌∙◌, subst}
use mathlib.Core.Bool.{Bool, true, false, cond}
use Prim.Native.Nat.{ℕ, zero, suc, ◌+◌, ◌-◌, ◌*◌, ◌/◌, ◌%◌, ◌^◌, ◌≤◌, ◌<◌}
use native.Mathlib.Nat.{div-div-eq-div-mul, div-eq_of_lt, le-div_iff_mul-le, mod-lt, pow-suc, add-mul, one-mul}
use native.Mathlib.Decide.{ℕ_discrete, dec_lt}
use native.Mathlib.Omega.{arith}
use lib.Dec.{T}
use lib.Pow.{pow_pos, split, high}
use Rattle.aiger.specs.Bits.{nonzero, odd, bit}
use Rattle.words.proofs.Bits.{bit-suc, join-low, join-high}
use Rattle.clauses.specs.Floor.{prefix}
use Rattle.places.proofs.Digits.{parity}
use Rattle.place_solver.specs.From.{digit_at}

-- the digits from the first on make the number
pub prefix-digits : (b : ℕ → ℕ) (n x : ℕ) → x < 2 ^ n → ((v : ℕ) → 1 ≤ v → v ≤ n → b v ≡ digit_at x (n - v)) → (v : ℕ) → v ≤ n
    → prefix b v ≡ x / 2 ^ (n - v)
unfolding prefix bit
prefix-digits b n x small each zero l =
    let e : n - 0 ≡ n = omega arith in
    sym (ap (λ (k : ℕ). x / 2 ^ k) e ∙ div-eq_of_lt small)
prefix-digits b n x small each (suc v) l =
    let i = n - suc v in
    let e : n - v ≡ suc i = omega arith in
    let half : x / 2 ^ (n - v) ≡ x / 2 ^ i / 2 =
    ap (λ (k : ℕ). x / 2 ^ k) e ∙ ap (λ (y : ℕ). x / y) (pow-suc 2 i) ∙ sym (div-div-eq-div-mul x (2 ^ i) 2) in
    omega (arith, prefix-digits b n x small each v (omega arith), half, each (suc v) (omega arith) l ∙ parity (x / 2 ^ i))

-- ---- a number without bit i

-- half of the digits before bit i, and those after it
abbrev pub without : ℕ → ℕ → ℕ
without x i = x / 2 ^ i / 2 * 2 * 2 ^ i + x % 2 ^ i

module _ (x i : ℕ) where
  small-rest : x % 2 ^ i < 2 ^ i
  small-rest = mod-lt x (pow_pos i)

  -- the other bits stay
  pub without_other : (k : ℕ) → (k ≡ i → ⊥) → bit (without x i) k ≡ bit x k
  without_other k n =
      let y = x / 2 ^ i in
      let r = x % 2 ^ i in
      let whole : bit (y * 2 ^ i + r) k ≡ bit x k = ap (λ (z : ℕ). bit z k) (split x i) in
      elim (dec_lt k i) [
        | yes l ↦ join-low i (y / 2 * 2) r k l ∙ sym (join-low i y r k l) ∙ whole
        | no l ↦
            let m = k - i - 1 in
            let e : k - i ≡ suc m = omega arith in
            let h : y / 2 * 2 / 2 ≡ y / 2 = omega arith in
            join-high i (y / 2 * 2) r k small-rest (omega arith) ∙ ap (bit (y / 2 * 2)) e ∙ bit-suc (y / 2 * 2) m ∙ ap (λ (z : ℕ). bit z m) h
            ∙ sym (bit-suc y m) ∙ ap (bit y) (sym e) ∙ sym (join-high i y r k small-rest (omega arith)) ∙ whole
      ]

  -- it is less, where the bit is 1
  pub without-less : bit x i ≡ true → without x i < x
  unfolding bit
  without-less e =
      let y = x / 2 ^ i in
      let p = 2 ^ i in
      let one : y ≡ y / 2 * 2 + 1 = omega (arith, odd-one (y % 2) (omega arith) e) in
      let s : (y / 2 * 2 + 1) * p ≡ y / 2 * 2 * p + p = add-mul (y / 2 * 2) 1 p ∙ ap (λ (z : ℕ). y / 2 * 2 * p + z) (one-mul p) in
      let w : y * p ≡ y / 2 * 2 * p + p = ap (λ (z : ℕ). z * p) one ∙ s in
      omega (arith, split x i, w, pow_pos i)
    where
      odd-one : (r : ℕ) → r < 2 → nonzero r ≡ true → r ≡ 1
      odd-one zero h e = absurd (subst T (sym e) tt)
      odd-one (suc zero) h e = refl
      odd-one (suc (suc r)) h e = absurd (omega arith)

  -- and no less than a smaller number that is 0 from the bit on
  pub without-above : (q : ℕ) → q * 2 ^ suc i ≤ x → q * 2 ^ suc i ≤ without x i
  without-above q l =
      let y = x / 2 ^ i in
      let half : (z : ℕ) → z / 2 ^ suc i ≡ z / 2 ^ i / 2 =
      λ z. ap (λ (k : ℕ). z / k) (pow-suc 2 i) ∙ sym (div-div-eq-div-mul z (2 ^ i) 2) in
      let a = (le-div_iff_mul-le {x = q} {y = x} (pow_pos (suc i))).1 l in
      let h : without x i / 2 ^ i ≡ y / 2 * 2 = high (y / 2 * 2) i small-rest in
      (le-div_iff_mul-le {x = q} {y = without x i} (pow_pos (suc i))).0 (omega (arith, half x, half (without x i), h))
