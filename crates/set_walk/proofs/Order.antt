-- The first place where two numbers differ. Assumes nothing.
use mathlib.Core.Path.{◌≡◌, refl, sym, ap, ◌∙◌}
use mathlib.Core.Bool.{Bool, true, false}
use Prim.Native.Nat.{ℕ, zero, suc, ◌+◌, ◌-◌, ◌*◌, ◌/◌, ◌%◌, ◌^◌, ◌≤◌, ◌<◌}
use native.Mathlib.Nat.{pow-suc}
use native.Mathlib.Decide.{dec_lt, ℕ_discrete}
use native.Mathlib.Omega.{arith}
use Rattle.aiger.specs.Bits.{nonzero, odd, bit}
use Rattle.aiger.specs.Frames.{free_bit}
use Rattle.words.proofs.Bits.{bit-zero, bit-suc}

-- sequence z is before y: at some place z has 0 and y has 1, and the places before it are equal
pub record Earlier (n z y : ℕ) : Type 0 where
  pub place : ℕ
  pub fits : place < n
  pub low : free_bit n z place ≡ false
  pub high : free_bit n y place ≡ true
  pub before : (j : ℕ) → j < place → free_bit n z j ≡ free_bit n y j

free-half : (n x j : ℕ) → j < n → free_bit (suc n) x j ≡ free_bit n (x / 2) j
free-half n x j l = let e : suc n - (j + 1) ≡ suc (n - (j + 1)) = omega arith in ap (bit x) e ∙ bit-suc x (n - (j + 1))

free-last : (n x : ℕ) → free_bit (suc n) x n ≡ odd x
free-last n x = let e : suc n - (n + 1) ≡ 0 = omega arith in ap (bit x) e ∙ bit-zero x

odd-of : (x r : ℕ) → x % 2 ≡ r → odd x ≡ nonzero r
odd-of x r e = ap nonzero e

pub earlier : (n z y : ℕ) → z < y → y < 2 ^ n → Earlier n z y
earlier zero z y l h = absurd (omega arith)
earlier (suc n) z y l h =
    let half : y / 2 < 2 ^ n = omega (arith, pow-suc 2 n) in
    elim (dec_lt (z / 2) (y / 2)) [
      | yes d ↦
          let e = earlier n (z / 2) (y / 2) d half in
          record {
            place = e.place;
            fits = omega (arith, e.fits);
            low = free-half n z e.place e.fits ∙ e.low;
            high = free-half n y e.place e.fits ∙ e.high;
            before = λ j k. free-half n z j (omega (arith, e.fits)) ∙ e.before j k ∙ sym (free-half n y j (omega (arith, e.fits)));
          }
      | no d ↦
          let q : z / 2 ≡ y / 2 = omega arith in
          record {
            place = n;
            fits = omega arith;
            low = free-last n z ∙ odd-of z 0 (omega arith);
            high = free-last n y ∙ odd-of y 1 (omega arith);
            before = λ j k. free-half n z j k ∙ ap (λ (x : ℕ). free_bit n x j) q ∙ sym (free-half n y j k);
          }
    ]
