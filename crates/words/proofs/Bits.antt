-- Bits of words, for every width together. Clause 10.4. Assumes nothing.
use mathlib.Core.Path.{◌≡◌, refl, sym, ap, ◌∙◌, subst}
use mathlib.Core.Bool.{Bool, true, false, not, xor, ◌&&◌, ◌||◌}
use mathlib.Core.Logic.{◌⊎◌, inl, inr}
use Prim.Native.Nat.{ℕ, zero, suc, ◌+◌, ◌-◌, ◌*◌, ◌/◌, ◌%◌, ◌^◌, ◌≤◌, ◌<◌, min, max}
use native.Mathlib.Nat.{div-one, pow-suc, le_of_suc-le-suc, not-suc-le-zero, div-eq_of_lt, lt_of_lt_of_le, sub-zero}
use native.Mathlib.Numerals.{one-add}
use native.Mathlib.Omega.{arith}
use lib.Arith.{digits_mod}
use lib.Pow.{shr-shr, pow_mono, pow_pos, high}
use lib.Dec.{lit<}
use lib.Bits.{bit_and, bit_or, bit_xor, differ, and_step, or_step, xor_step, and_shr, or_shr, xor_shr, xor_self, block_odd, block_half, and_mask}
use lib.Count.{count_trailing_zeros, under, trailing_le, trailing_of_zero}
use Rattle.aiger.specs.Bits.{nonzero, odd, bit}
use Rattle.aiger.specs.Signature.{FirstDifference}

-- ---- the two equations by which a proof goes through the bits

pub bit-zero : (x : ℕ) → bit x 0 ≡ odd x
unfolding bit
bit-zero x = ap odd (div-one x)

pub bit-suc : (x p : ℕ) → bit x (suc p) ≡ bit (x / 2) p
unfolding bit
bit-suc x p = ap odd (ap (λ (q : ℕ). x / 2 ^ q) (sym (one-add p)) ∙ sym (shr-shr x 1 p))

-- ---- and, or, exclusive or

-- what holds of 0 and 1 holds of every two digits
two_digits : (P : ℕ → ℕ → Type 0) → P 0 0 → P 0 1 → P 1 0 → P 1 1 → (x y : ℕ) → x < 2 → y < 2 → P x y
two_digits P a b c d zero zero hx hy = a
two_digits P a b c d zero (suc zero) hx hy = b
two_digits P a b c d (suc zero) zero hx hy = c
two_digits P a b c d (suc zero) (suc zero) hx hy = d
two_digits P a b c d zero (suc (suc y)) hx hy = absurd (omega arith)
two_digits P a b c d (suc zero) (suc (suc y)) hx hy = absurd (omega arith)
two_digits P a b c d (suc (suc x)) y hx hy = absurd (omega arith)

-- f takes two digits to a digit, as g takes their tests
abbrev Digitwise : (ℕ → ℕ → ℕ) → (Bool → Bool → Bool) → Type 0
Digitwise f g = (x y : ℕ) → x < 2 → y < 2 → (f x y < 2) × (nonzero (f x y) ≡ g (nonzero x) (nonzero y))

-- an operation that goes digit by digit goes bit by bit
bit-by-bit : (op f : ℕ → ℕ → ℕ) (g : Bool → Bool → Bool)
    → ((a b : ℕ) → op a b ≡ op (a / 2) (b / 2) * 2 + f (a % 2) (b % 2))
    → ((a b k : ℕ) → op a b / 2 ^ k ≡ op (a / 2 ^ k) (b / 2 ^ k))
    → Digitwise f g → (a b p : ℕ) → bit (op a b) p ≡ g (bit a p) (bit b p)
unfolding bit
bit-by-bit op f g step shr digit a b p =
    let x : ℕ = a / 2 ^ p in
    let y : ℕ = b / 2 ^ p in
    let d : (f (x % 2) (y % 2) < 2) × (nonzero (f (x % 2) (y % 2)) ≡ g (odd x) (odd y)) =
    digit (x % 2) (y % 2) (omega arith) (omega arith) in
    ap odd (shr a b p ∙ step x y) ∙ ap nonzero (digits_mod (op (x / 2) (y / 2)) d.0) ∙ d.1

and-digits : Digitwise min ◌&&◌
and-digits = two_digits _ (lit< tt, refl) (lit< tt, refl) (lit< tt, refl) (lit< tt, refl)

pub bit-and : (a b p : ℕ) → bit (bit_and a b) p ≡ (bit a p && bit b p)
bit-and = bit-by-bit bit_and min ◌&&◌ and_step and_shr and-digits

or_digits : Digitwise max ◌||◌
or_digits = two_digits _ (lit< tt, refl) (lit< tt, refl) (lit< tt, refl) (lit< tt, refl)

pub bit-or : (a b p : ℕ) → bit (bit_or a b) p ≡ (bit a p || bit b p)
bit-or = bit-by-bit bit_or max ◌||◌ or_step or_shr or_digits

xor-digits : Digitwise differ xor
unfolding xor
xor-digits = two_digits _ (lit< tt, refl) (lit< tt, refl) (lit< tt, refl) (lit< tt, refl)

pub bit-xor : (a b p : ℕ) → bit (bit_xor a b) p ≡ xor (bit a p) (bit b p)
bit-xor = bit-by-bit bit_xor differ xor xor_step xor_shr xor-digits

-- ---- beyond the width there is nothing; all bits set, and none

pub bit-beyond : (w x p : ℕ) → x < 2 ^ w → w ≤ p → bit x p ≡ false
unfolding bit
bit-beyond w x p hx hp = ap odd (div-eq_of_lt (lt_of_lt_of_le hx (pow_mono hp)))

pub bit-none : (p : ℕ) → bit 0 p ≡ false
bit-none p = bit-beyond 0 0 p (lit< tt) (omega arith)

nonzero-opposite : (x y : ℕ) → x + y ≡ 1 → nonzero x ≡ not (nonzero y)
nonzero-opposite x y e =
    two_digits (λ x y. x + y ≡ 1 → nonzero x ≡ not (nonzero y)) (λ e. absurd (omega arith)) (λ e. refl) (λ e. refl)
    (λ e. absurd (omega arith)) x y (omega arith) (omega arith) e

-- the complement at width w
pub bit_not : (w a p : ℕ) → a < 2 ^ w → p < w → bit ((2 ^ w - 1) - a) p ≡ not (bit a p)
bit_not zero a p ha hp = absurd (not-suc-le-zero hp)
bit_not (suc w) a zero ha hp =
    let e : 2 ^ suc w ≡ 2 ^ w * 2 = pow-suc 2 w in
    bit-zero ((2 ^ suc w - 1) - a)
    ∙ nonzero-opposite (((2 ^ suc w - 1) - a) % 2) (a % 2) (omega arith)
    ∙ ap not (sym (bit-zero a))
bit_not (suc w) a (suc p) ha hp =
    let e : 2 ^ suc w ≡ 2 ^ w * 2 = pow-suc 2 w in
    let half : ((2 ^ suc w - 1) - a) / 2 ≡ (2 ^ w - 1) - a / 2 = omega arith in
    bit-suc ((2 ^ suc w - 1) - a) p
    ∙ ap (λ (x : ℕ). bit x p) half
    ∙ bit_not w (a / 2) p (omega arith) (le_of_suc-le-suc hp)
    ∙ ap not (sym (bit-suc a p))

pub bit-all : (w p : ℕ) → p < w → bit (2 ^ w - 1) p ≡ true
bit-all w p h =
    ap (λ (x : ℕ). bit x p) (sym (sub-zero (2 ^ w - 1))) ∙ bit_not w 0 p (pow_pos w) h ∙ ap not (bit-none p)

-- ---- two words with the same bits are equal

nonzero-equal : (x y : ℕ) → x < 2 → y < 2 → nonzero x ≡ nonzero y → x ≡ y
nonzero-equal =
    two_digits (λ x y. nonzero x ≡ nonzero y → x ≡ y) (λ e. refl)
    (λ e. let z : ◌≡◌ {A = ℕ} 0 1 = cc in z) (λ e. let z : ◌≡◌ {A = ℕ} 0 1 = cc in sym z) (λ e. refl)

pub bits-equal : (w a b : ℕ) → a < 2 ^ w → b < 2 ^ w → ((p : ℕ) → p < w → bit a p ≡ bit b p) → a ≡ b
bits-equal zero a b ha hb h = omega arith
bits-equal (suc w) a b ha hb h =
    let e : 2 ^ suc w ≡ 2 ^ w * 2 = pow-suc 2 w in
    let low : a % 2 ≡ b % 2 =
    nonzero-equal (a % 2) (b % 2) (omega arith) (omega arith) (sym (bit-zero a) ∙ h 0 (omega arith) ∙ bit-zero b) in
    let high : a / 2 ≡ b / 2 =
    bits-equal w (a / 2) (b / 2) (omega arith) (omega arith)
    (λ p hp. sym (bit-suc a p) ∙ h (suc p) (omega arith) ∙ bit-suc b p) in
    omega arith

-- ---- two numbers side by side

pub join-low : (w a r p : ℕ) → p < w → bit (a * 2 ^ w + r) p ≡ bit r p
join-low zero a r p h = absurd (not-suc-le-zero h)
join-low (suc w) a r zero h = bit-zero (a * 2 ^ suc w + r) ∙ ap nonzero (block_odd a w r) ∙ sym (bit-zero r)
join-low (suc w) a r (suc p) h =
    bit-suc (a * 2 ^ suc w + r) p ∙ ap (λ (x : ℕ). bit x p) (block_half a w r)
    ∙ join-low w a (r / 2) p (le_of_suc-le-suc h) ∙ sym (bit-suc r p)

pub join-high : (w a r p : ℕ) → r < 2 ^ w → w ≤ p → bit (a * 2 ^ w + r) p ≡ bit a (p - w)
unfolding bit
join-high w a r p h l =
    let e : p ≡ w + (p - w) = omega arith in
    ap odd
    (ap (λ (q : ℕ). (a * 2 ^ w + r) / 2 ^ q) e ∙ sym (shr-shr (a * 2 ^ w + r) w (p - w)) ∙ ap (λ (x : ℕ). x / 2 ^ (p - w)) (high a w h))

-- ---- a test of one bit, as code writes it

pub bit-tested : (x p : ℕ) → bit_and (x / 2 ^ p) 1 ≡ 1 → bit x p ≡ true
unfolding bit
bit-tested x p e = ap nonzero (sym (and_mask (x / 2 ^ p) 1) ∙ e)

pub bit-tested-not : (x p : ℕ) → (bit_and (x / 2 ^ p) 1 ≡ 1 → ⊥) → bit x p ≡ false
unfolding bit
bit-tested-not x p n =
    let m : bit_and (x / 2 ^ p) 1 ≡ x / 2 ^ p % 2 = and_mask (x / 2 ^ p) 1 in
    let z : x / 2 ^ p % 2 ≡ 1 → ⊥ = λ q. n (m ∙ q) in
    let e : x / 2 ^ p % 2 ≡ 0 = omega arith in
    ap nonzero e

-- ---- the first set bit, or the width where there is none

digit-cases : (n : ℕ) → (n % 2 ≡ 0) ⊎ (n % 2 ≡ 1)
digit-cases n = go (n % 2) (omega arith) refl
  where
    go : (r : ℕ) → r < 2 → n % 2 ≡ r → (n % 2 ≡ 0) ⊎ (n % 2 ≡ 1)
    go zero h e = inl e
    go (suc zero) h e = inr e
    go (suc (suc r)) h e = absurd (omega arith)

trailing_even : (k n : ℕ) → n % 2 ≡ 0 → count_trailing_zeros (suc k) n ≡ suc (count_trailing_zeros k (n / 2))
unfolding count_trailing_zeros
trailing_even k n e = ap (λ (r : ℕ). under r (count_trailing_zeros k (n / 2))) e

trailing_odd : (k n : ℕ) → n % 2 ≡ 1 → count_trailing_zeros (suc k) n ≡ 0
unfolding count_trailing_zeros
trailing_odd k n e = ap (λ (r : ℕ). under r (count_trailing_zeros k (n / 2))) e

pub trailing_below : (k n p : ℕ) → p < count_trailing_zeros k n → bit n p ≡ false
unfolding count_trailing_zeros
trailing_below zero n p h = absurd (not-suc-le-zero h)
trailing_below (suc k) n p h = go p h (λ q. trailing_below k (n / 2) q) (digit-cases n)
  where
    go : (p : ℕ) → p < count_trailing_zeros (suc k) n → ((q : ℕ) → q < count_trailing_zeros k (n / 2) → bit (n / 2) q ≡ false)
        → (n % 2 ≡ 0) ⊎ (n % 2 ≡ 1) → bit n p ≡ false
    go zero h ih (inl e) = bit-zero n ∙ ap nonzero e
    go (suc p) h ih (inl e) = bit-suc n p ∙ ih p (le_of_suc-le-suc (rw (trailing_even k n e) at h))
    go p h ih (inr e) = let o : count_trailing_zeros (suc k) n ≡ 0 = trailing_odd k n e in absurd (omega arith)

pub trailing_at : (k n : ℕ) → count_trailing_zeros k n < k → bit n (count_trailing_zeros k n) ≡ true
trailing_at zero n h = absurd (not-suc-le-zero h)
trailing_at (suc k) n h = go (trailing_at k (n / 2)) (digit-cases n)
  where
    go : (count_trailing_zeros k (n / 2) < k → bit (n / 2) (count_trailing_zeros k (n / 2)) ≡ true) → (n % 2 ≡ 0) ⊎ (n % 2 ≡ 1)
        → bit n (count_trailing_zeros (suc k) n) ≡ true
    go ih (inl e) =
        let z = trailing_even k n e in
        ap (bit n) z ∙ bit-suc n (count_trailing_zeros k (n / 2)) ∙ ih (omega arith)
    go ih (inr e) = ap (bit n) (trailing_odd k n e) ∙ bit-zero n ∙ ap nonzero e

-- ---- exclusive or of two tests

pub xor-false : (b : Bool) → xor false b ≡ b
unfolding xor
xor-false true = refl
xor-false false = refl

pub xor-true : (b : Bool) → xor true b ≡ not b
unfolding xor
xor-true true = refl
xor-true false = refl

pub equal-of-xor : (a b : Bool) → xor a b ≡ false → a ≡ b
equal-of-xor false b e = sym e ∙ xor-false b
equal-of-xor true true e = refl
equal-of-xor true false e = sym (xor-true false) ∙ e

pub opposite-of-xor : (a b : Bool) → xor a b ≡ true → a ≡ not b
opposite-of-xor true b e = sym e ∙ xor-true b
opposite-of-xor false true e = refl
opposite-of-xor false false e = sym (xor-false false) ∙ e

-- ---- the first bit where two words differ

pub first-difference : (w a b : ℕ) → a < 2 ^ w → b < 2 ^ w → FirstDifference w a b (count_trailing_zeros w (bit_xor a b))
first-difference w a b ha hb =
    let x : ℕ = bit_xor a b in
    let r : ℕ = count_trailing_zeros w x in
    let below : (p : ℕ) → p < r → bit a p ≡ bit b p =
    λ p h. equal-of-xor (bit a p) (bit b p) (sym (bit-xor a b p) ∙ trailing_below w x p h) in
    record {
      within = trailing_le w x;
      below = below;
      here = λ h. opposite-of-xor (bit a r) (bit b r) (sym (bit-xor a b r) ∙ trailing_at w x h);
      equal = λ e. bits-equal w a b ha hb (λ p h. below p (subst (λ (n : ℕ). p < n) (sym e) h));
      none = λ e. ap (λ (c : ℕ). count_trailing_zeros w (bit_xor a c)) (sym e) ∙ ap (count_trailing_zeros w) (xor_self a) ∙ trailing_of_zero w;
    }
