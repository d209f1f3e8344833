-- Bits of numbers and the free bits of a sequence: a number below 2 to the power n is its n bits. Assumes nothing.
use mathlib.Core.Path.{◌≡◌, refl, sym, ap, ◌∙◌, subst}
use mathlib.Core.Bool.{Bool, true, false, cond}
use Prim.Native.Nat.{ℕ, zero, suc, ◌+◌, ◌-◌, ◌*◌, ◌/◌, ◌%◌, ◌^◌, ◌≤◌, ◌<◌}
use native.Mathlib.Nat.{pow-suc, not-suc-le-zero, le_of_suc-le-suc}
use native.Mathlib.Omega.{arith}
use Rattle.aiger.specs.Bits.{nonzero, bit}
use Rattle.aiger.specs.Frames.{free_bit}
use Rattle.words.proofs.Bits.{bit-zero, bit-suc, bits-equal}

-- any n bits are those of a number below 2 to the power n
pub record Number (n : ℕ) (f : ℕ → Bool) : Type 0 where
  pub number : ℕ
  pub fits : number < 2 ^ n
  pub bits : (p : ℕ) → p < n → bit number p ≡ f p

last_bit : (b : Bool) (x : ℕ) → (nonzero ((cond b 1 0 + 2 * x) % 2) ≡ b) × ((cond b 1 0 + 2 * x) / 2 ≡ x) × (cond b 1 0 + 2 * x ≤ 2 * x + 1)
last_bit true x = (let e : (1 + 2 * x) % 2 ≡ 1 = omega arith in ap nonzero e, omega arith, omega arith)
last_bit false x = (let e : (0 + 2 * x) % 2 ≡ 0 = omega arith in ap nonzero e, omega arith, omega arith)

pub number_of : (n : ℕ) (f : ℕ → Bool) → Number n f
number_of zero f = record { number = 0; fits = omega arith; bits = λ p h. absurd (not-suc-le-zero h) }
number_of (suc n) f =
    let r = number_of n (λ p. f (suc p)) in
    let x = cond (f 0) 1 0 + 2 * r.number in
    let l = last_bit (f 0) r.number in
    let e : 2 ^ suc n ≡ 2 ^ n * 2 = pow-suc 2 n in
    record {
      number = x;
      fits = omega (arith, r.fits, l.2);
      bits =
          elim [ zero ↦ λ h. bit-zero x ∙ l.0 | suc p ↦ λ h. bit-suc x p ∙ ap (λ (y : ℕ). bit y p) l.1 ∙ r.bits p (le_of_suc-le-suc h) ];
    }

-- ---- free bits, which stand in the opposite order

-- two sequences with the same free bits are equal
pub sequence-same : (n x y : ℕ) → x < 2 ^ n → y < 2 ^ n → ((j : ℕ) → j < n → free_bit n x j ≡ free_bit n y j) → x ≡ y
sequence-same n x y hx hy h =
    bits-equal n x y hx hy
    (λ p k.
    let e : n - ((n - (p + 1)) + 1) ≡ p = omega arith in
    subst (λ (q : ℕ). bit x q ≡ bit y q) e (h (n - (p + 1)) (omega arith)))

-- any n free bits are those of a sequence
pub sequence-of : (n : ℕ) (f : ℕ → Bool) → (x : ℕ) × (x < 2 ^ n) × ((j : ℕ) → j < n → free_bit n x j ≡ f j)
sequence-of n f =
    let r = number_of n (λ p. f (n - (p + 1))) in
    (r.number, r.fits, λ j h. let e : n - ((n - (j + 1)) + 1) ≡ j = omega arith in r.bits (n - (j + 1)) (omega arith) ∙ ap f e)
