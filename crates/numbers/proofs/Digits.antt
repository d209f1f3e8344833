-- The digits that a number is written with: how many they are, and one after another. Assumes nothing.
use mathlib.Core.Path.{◌≡◌, refl, sym, ap, ◌∙◌}
use mathlib.Core.List.{List, [], ◌∷◌, ◌++◌}
use Prim.Native.Nat.{ℕ, zero, suc, ◌+◌, ◌-◌, ◌/◌, ◌%◌, ◌^◌, ◌≤◌, ◌<◌}
use native.Mathlib.Nat.{pow-suc}
use native.Mathlib.Numerals.{add-one}
use native.Mathlib.Omega.{arith}
use native.Mathlib.Decide.{dec_lt}
use borrow.Author.Tests.{lt-ltb, le-ltb}
use lib.ListN.{length, drop, set, length-append, length-set}
use lib.Seq.{drop-cons, get_or-set_same, drop-set-lt, append_snoc}
use Rattle.aiger.specs.Text.{digits_up_to, digits, long_digits}
use Rattle.numbers.specs.Last.{last_digits}

-- how many there are
pub digits-least : (k n : ℕ) → 1 ≤ length (digits_up_to k n)
unfolding digits_up_to
digits-least zero n = omega arith
digits-least (suc k) n =
    elim (dec_lt n 10) [
      | yes l ↦ simp (lt-ltb n 10 l) (omega arith)
      | no l ↦ simp (le-ltb n 10 (omega arith)) (omega (arith, length-append (digits_up_to k (n / 10)) ((48 + n % 10) ∷ [])))
    ]

pub digits-most : (k n : ℕ) → length (digits_up_to k n) ≤ k + 1
unfolding digits_up_to
digits-most zero n = omega arith
digits-most (suc k) n =
    elim (dec_lt n 10) [
      | yes l ↦ simp (lt-ltb n 10 l) (omega arith)
      | no l ↦
          simp (le-ltb n 10 (omega arith))
          (omega (arith, length-append (digits_up_to k (n / 10)) ((48 + n % 10) ∷ []), digits-most k (n / 10)))
    ]

-- a number below ten to the power j + 1 has at most j + 1
pub digits-short : (k j n : ℕ) → n < 10 ^ suc j → length (digits_up_to k n) ≤ suc j
unfolding digits_up_to
digits-short zero j n h = omega arith
digits-short (suc k) zero n h = simp (lt-ltb n 10 h) (omega arith)
digits-short (suc k) (suc j) n h =
    elim (dec_lt n 10) [
      | yes l ↦ simp (lt-ltb n 10 l) (omega arith)
      | no l ↦
          let less : n / 10 < 10 ^ suc j = omega (arith, pow-suc 10 (suc j)) in
          simp (le-ltb n 10 (omega arith))
          (omega (arith, length-append (digits_up_to k (n / 10)) ((48 + n % 10) ∷ []), digits-short k j (n / 10) less))
    ]

-- room for more digits than there are changes nothing
roomier : (k n : ℕ) → n < 10 ^ suc k → digits_up_to (suc k) n ≡ digits_up_to k n
unfolding digits_up_to
roomier zero n h = simp (lt-ltb n 10 h)
roomier (suc k) n h =
    elim (dec_lt n 10) [
      | yes l ↦ simp (lt-ltb n 10 l)
      | no l ↦
          let less : n / 10 < 10 ^ suc k = omega (arith, pow-suc 10 (suc k)) in
          simp (le-ltb n 10 (omega arith)) (ap (λ (w : List ℕ). w ++ ((48 + n % 10) ∷ [])) (roomier k (n / 10) less))
    ]

-- one digit, and one digit more, where there is room for k + 2
pub up-to-one : (k n : ℕ) → n < 10 → digits_up_to k n ≡ (48 + n) ∷ []
unfolding digits_up_to
up-to-one zero n h = refl
up-to-one (suc k) n h = simp (lt-ltb n 10 h)

pub digits-one : (n : ℕ) → n < 10 → digits n ≡ (48 + n) ∷ []
digits-one n h = up-to-one 9 n h

up-to-more : (k n : ℕ) → 9 < n → n < 10 ^ suc (suc k) → digits_up_to (suc k) n ≡ digits_up_to (suc k) (n / 10) ++ ((48 + n % 10) ∷ [])
unfolding digits_up_to
up-to-more k n h b =
    simp (le-ltb n 10 (omega arith))
    (ap (λ (w : List ℕ). w ++ ((48 + n % 10) ∷ [])) (sym (roomier k (n / 10) (omega (arith, pow-suc 10 (suc k))))))

pub long-more-length : (n : ℕ) → 9 < n → n < 10 ^ 20 → length (long_digits n) ≡ length (long_digits (n / 10)) + 1
long-more-length n h b = rw (up-to-more 18 n h b) (length-append (long_digits (n / 10)) _)

-- a number that is not long is written alike
pub long_same : (n : ℕ) → n < 10 ^ 10 → long_digits n ≡ digits n
long_same n h =
    roomier 18 n (omega arith) ∙ roomier 17 n (omega arith) ∙ roomier 16 n (omega arith) ∙ roomier 15 n (omega arith)
    ∙ roomier 14 n (omega arith) ∙ roomier 13 n (omega arith) ∙ roomier 12 n (omega arith) ∙ roomier 11 n (omega arith)
    ∙ roomier 10 n (omega arith) ∙ roomier 9 n h

-- the digits are the last of the number
one_last : (n : ℕ) → n < 10 → last_digits 1 n ≡ (48 + n) ∷ []
unfolding last_digits
one_last n h = let e : n % 10 ≡ n = omega arith in rw e

snoc-last : (n : ℕ) (w : List ℕ) → last_digits (length w) (n / 10) ≡ w → last_digits (length (w ++ ((48 + n % 10) ∷ []))) n ≡ w ++ ((48 + n % 10) ∷ [])
unfolding last_digits
snoc-last n w e = rw (length-append w ((48 + n % 10) ∷ []), add-one (length w)) (ap (λ (v : List ℕ). v ++ ((48 + n % 10) ∷ [])) e)

last_up : (k n : ℕ) → n < 10 ^ suc k → last_digits (length (digits_up_to k n)) n ≡ digits_up_to k n
unfolding digits_up_to
last_up zero n h = one_last n h
last_up (suc k) n h =
    elim (dec_lt n 10) [
      | yes l ↦ simp (lt-ltb n 10 l) (one_last n l)
      | no l ↦
          let less : n / 10 < 10 ^ suc k = omega (arith, pow-suc 10 (suc k)) in
          simp (le-ltb n 10 (omega arith)) (snoc-last n (digits_up_to k (n / 10)) (last_up k (n / 10) less))
    ]

pub digits_last : (n : ℕ) → n < 10 ^ 20 → last_digits (length (long_digits n)) n ≡ long_digits n
digits_last n h = last_up 19 n h

-- one more digit, before those that stand from k on
pub fill-before : (out : List ℕ) (k n : ℕ) → 0 < k → k ≤ length out → last_digits (k - 1) (n / 10) ++ drop (k - 1) (set out (k - 1) (48 + n % 10)) ≡ last_digits k n ++ drop k out
unfolding last_digits
fill-before out zero n p h = absurd (omega arith)
fill-before out (suc k) n p h =
    let d : ℕ = 48 + n % 10 in
    let e : suc k - 1 ≡ k = omega arith in
    let q : k < length (set out k d) = omega (arith, length-set out k d) in
    rw (e, drop-cons (set out k d) k 0 q, get_or-set_same out k d 0 h, drop-set-lt (suc k) out k d (omega arith))
    (sym (append_snoc (last_digits k (n / 10)) d (drop (suc k) out)))

pub fill_done : (out : List ℕ) (k n : ℕ) → k ≤ 0 → out ≡ last_digits k n ++ drop k out
unfolding last_digits
fill_done out zero n h = refl
fill_done out (suc k) n h = absurd (omega arith)
