-- The digits of a number are a number, and it is read back from them. Assumes nothing.
use mathlib.Core.Path.{◌≡◌, refl, sym, ◌∙◌}
use mathlib.Core.Bool.{true, false}
use mathlib.Core.List.{List, [], ◌∷◌, ◌++◌}
use mathlib.Core.Logic.{◌≢◌}
use Prim.Native.Nat.{ℕ, zero, suc, ◌+◌, ◌-◌, ◌*◌, ◌/◌, ◌%◌, ◌^◌, ◌≤◌, ◌<◌}
use native.Mathlib.Nat.{pow-suc}
use native.Mathlib.Omega.{arith}
use native.Mathlib.Decide.{dec_lt}
use borrow.Author.Tests.{lt-ltb, le-ltb, le-leb, ne_eqb}
use lib.Dec.{T, leb, le→leb}
use lib.ListN.{length, get_or, length-append, get_or-append}
use Rattle.aiger.specs.Lists.{every}
use Rattle.aiger.specs.Text.{is_digit, is_number, decimal, span, spaced, ended, ended_by, token, digits_up_to, digits}
use Rattle.aiger.proofs.Tests.{and, and_left, and_right, true-T}

-- what holds of the digits w of a number n
pub record Digits (k n : ℕ) (w : List ℕ) : Type 0 where
  pub all : T (every is_digit w)
  pub some_one : 1 ≤ length w
  pub few : length w ≤ k + 1
  pub lead : 0 < n → get_or w 0 0 ≢ 48
  pub value : decimal 0 w ≡ n

every_append : (v w : List ℕ) → T (every is_digit v) → T (every is_digit w) → T (every is_digit (v ++ w))
every_append [] w h g = g
every_append (d ∷ v) w h g =
    and (is_digit d) (every is_digit (v ++ w)) (and_left (is_digit d) (every is_digit v) h)
    (every_append v w (and_right (is_digit d) (every is_digit v) h) g)

decimal-snoc : (a d : ℕ) (w : List ℕ) → decimal a (w ++ (d ∷ [])) ≡ decimal a w * 10 + (d - 48)
unfolding decimal
decimal-snoc a d [] = refl
decimal-snoc a d (c ∷ w) = decimal-snoc (a * 10 + (c - 48)) d w

is_digit_lem : (n : ℕ) → n < 10 → T (is_digit (48 + n))
is_digit_lem n h =
    and (leb 48 (48 + n)) (leb (48 + n) 57) (le→leb 48 (48 + n) (omega arith)) (le→leb (48 + n) 57 (omega arith))

single : (k n : ℕ) → n < 10 → Digits k n ((48 + n) ∷ [])
unfolding decimal
single k n h =
    record {
      all = and (is_digit (48 + n)) true (is_digit_lem n h) tt;
      some_one = omega arith;
      few = omega arith;
      lead = λ l e. omega arith;
      value = omega arith;
    }

snoc : (k n : ℕ) (w : List ℕ) → 10 ≤ n → Digits k (n / 10) w → Digits (suc k) n (w ++ ((48 + n % 10) ∷ []))
snoc k n w h d =
    let last_one : List ℕ = (48 + n % 10) ∷ [] in
    record {
      all = every_append w last_one d.all (and (is_digit (48 + n % 10)) true (is_digit_lem (n % 10) (omega arith)) tt);
      some_one = omega (arith, length-append w last_one, d.some_one);
      few = omega (arith, length-append w last_one, d.few);
      lead = λ l e. d.lead (omega arith) (sym (get_or-append w last_one 0 0 d.some_one) ∙ e);
      value = decimal-snoc 0 (48 + n % 10) w ∙ omega (arith, d.value);
    }

pub digits_are : (k n : ℕ) → n < 10 ^ (suc k) → Digits k n (digits_up_to k n)
unfolding digits_up_to
digits_are zero n h = single zero n h
digits_are (suc k) n h =
    elim (dec_lt n 10) [
      | yes l ↦ simp (lt-ltb n 10 l) (single (suc k) n l)
      | no l ↦
          let less : n / 10 < 10 ^ suc k = omega (arith, pow-suc 10 (suc k)) in
          simp (le-ltb n 10 (omega arith)) (snoc k n (digits_up_to k (n / 10)) (omega arith) (digits_are k (n / 10) less))
    ]

-- they are a number
pub digits_number : (n : ℕ) → n < 10 ^ 10 → is_number (digits n) ≡ true
unfolding is_number digits_up_to
digits_number zero h = refl
digits_number (suc m) h =
    let w = digits (suc m) in
    let d = digits_are 9 (suc m) h in
    simp (
      true-T (every is_digit w) d.all,
      le-leb 1 (length w) d.some_one,
      le-leb (length w) 10 d.few,
      ne_eqb (get_or w 0 0) 48 (d.lead (omega arith)),
    )

spanned : (w f : List ℕ) (c : ℕ) → T (every is_digit w) → is_digit c ≡ false → span (w ++ c ∷ f) ≡ (w, c ∷ f)
unfolding span
spanned [] f c h e = rw e
spanned (d ∷ w) f c h e =
    simp (
      true-T (is_digit d) (and_left (is_digit d) (every is_digit w) h),
      spanned w f c (and_right (is_digit d) (every is_digit w) h) e,
    )

-- what is written is read back
read_back : (n c : ℕ) (f : List ℕ) → n < 10 ^ 10 → is_digit c ≡ false → token (digits n ++ c ∷ f) ≡ ended_by n (c ∷ f)
unfolding token
read_back n c f h e =
    let d = digits_are 9 n h in
    simp (spanned (digits n) f c d.all e, digits_number n h, d.value)

pub digits-spaced : (n : ℕ) (f : List ℕ) → n < 10 ^ 10 → token (digits n ++ 32 ∷ f) ≡ spaced n f
unfolding ended_by
digits-spaced n f h = read_back n 32 f h refl

pub digits-ended : (n : ℕ) (f : List ℕ) → n < 10 ^ 10 → token (digits n ++ 10 ∷ f) ≡ ended n f
unfolding ended_by
digits-ended n f h = read_back n 10 f h refl
