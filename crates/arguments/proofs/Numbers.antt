-- A number that is a whole text, read digit by digit. Assumes nothing.
use mathlib.Core.Path.{◌≡◌, refl, sym, ap, ◌∙◌, subst}
use mathlib.Core.Bool.{Bool, true, false, not, cond, ◌&&◌, ◌||◌}
use mathlib.Core.List.{List, [], ◌∷◌}
use mathlib.Core.Logic.{◌⊎◌, inl, inr}
use mathlib.Core.Option.{Option, none, some}
use Prim.Native.Nat.{ℕ, ◌+◌, ◌-◌, ◌*◌, ◌^◌, ◌≤◌, ◌<◌}
use native.Mathlib.Numerals.{add-one}
use native.Mathlib.Omega.{arith}
use borrow.Author.Tests.{le-leb, lt-leb, eq-eqb, ne_eqb}
use lib.Dec.{T, leb, eqb, leb→le}
use lib.ListN.{length, get_or, drop, drop_of_length-le}
use lib.Seq.{drop-cons}
use Rattle.aiger.specs.Lists.{every}
use Rattle.aiger.specs.Text.{is_digit, is_number, decimal}
use Rattle.aiger.proofs.Tests.{T_true, true-T, and_left, and_right}
use Rattle.numbers.proofs.Run as numbers
use Rattle.numbers.proofs.Run.{small-more, small-in}
use Rattle.arguments.specs.Arguments.{number_of, is_digits, seed_of, place_of}

-- ---- conjunctions

and-before : (a b : Bool) → a ≡ true → (a && b) ≡ b
and-before true b e = refl
and-before false b e = absurd (subst T (sym e) tt)

and-true : (b : Bool) → (b && true) ≡ b
and-true true = refl
and-true false = refl

and-false : (b : Bool) → (b && false) ≡ false
and-false true = refl
and-false false = refl

or-true : (b : Bool) → (b || true) ≡ true
or-true true = refl
or-true false = refl

or-false : (b : Bool) → (b || false) ≡ b
or-false true = refl
or-false false = refl

-- ---- whether a text is a seed, by its digits and its length

-- the test of a seed with what it tests as variables
gives : (a b : Bool) (n : ℕ) → a ≡ true → b ≡ true → some n ≡ cond (a && b) (some n) none
gives a b n e f = rw (e, f)

pub no-digits : (w : List ℕ) → is_digits 20 w ≡ false → none ≡ seed_of w
unfolding seed_of
no-digits w e = rw e

too_large : (w : List ℕ) → 18446744073709551615 < decimal 0 w → none ≡ seed_of w
unfolding seed_of
too_large w h = rw (lt-leb (decimal 0 w) 18446744073709551615 h, and-false (is_digits 20 w))

pub empty : (most : ℕ) (w : List ℕ) → length w ≡ 0 → is_digits most w ≡ false
empty most [] h = refl
empty most (d ∷ w) h = absurd (omega arith)

pub overlong : (most : ℕ) (w : List ℕ) → most < length w → is_digits most w ≡ false
overlong most w h = simp (lt-leb _ _ h, and-false)

-- a text with no byte, or with more than twenty
pub outside : (w : List ℕ) → (length w ≡ 0) ⊎ ((length w ≡ 0 → ⊥) × 20 < length w) → none ≡ seed_of w
outside w (inl h) = no-digits w (empty 20 w h)
outside w (inr h) = no-digits w (overlong 20 w h.1)

single : (w : List ℕ) → T (every is_digit w) → length w ≡ 1 → is_digits 20 w ≡ true
single w a h = simp (true-T (every is_digit w) a, h, or-true)

several : (w : List ℕ) → T (every is_digit w) → 1 < length w → length w ≤ 20 → is_digits 20 w ≡ not (eqb (get_or w 0 0) 48)
several w a h g =
    let l : 1 ≤ length w = omega arith in
    let n : length w ≡ 1 → ⊥ = omega arith in
    simp (true-T (every is_digit w) a, le-leb _ _ l, le-leb _ _ g, ne_eqb _ _ n, or-false)

-- ---- the value

-- digits after a number do not make it smaller
grows : (n : ℕ) (w : List ℕ) → n ≤ decimal n w
unfolding decimal
grows n [] = omega arith
grows n (c ∷ w) = omega (arith, grows (n * 10 + (c - 48)) w)

digit-small : (c : ℕ) → T (is_digit c) → c - 48 ≤ 9
digit-small c t = omega (arith, leb→le c 57 (and_right (leb 48 c) (leb c 57) t))

-- a number of few digits is small
decimal-small : (k n : ℕ) (w : List ℕ) → T (every is_digit w) → n < 10 ^ k → decimal n w < 10 ^ (k + length w)
unfolding decimal
decimal-small k n [] t h = let z : k + 0 ≡ k = omega arith in rw z h
decimal-small k n (c ∷ w) t h =
    let d = digit-small c (and_left (is_digit c) (every is_digit w) t) in
    let z : k + length (c ∷ w) ≡ k + 1 + length w = omega arith in
    rw z (decimal-small (k + 1) (n * 10 + (c - 48)) w (and_right (is_digit c) (every is_digit w) t) (small-more k n (c - 48) h d))

-- a text of at most ten bytes is a seed exactly where it is a number
pub seed-number : (w : List ℕ) → length w ≤ 10 → seed_of w ≡ number_of w
unfolding seed_of number_of is_number
seed-number w h = go (every is_digit w) refl
  where
    a : leb (length w) 20 ≡ true
    a = le-leb (length w) 20 (omega arith)

    b : leb (length w) 10 ≡ true
    b = le-leb (length w) 10 h

    c : T (every is_digit w) → leb (decimal 0 w) 18446744073709551615 ≡ true
    c t = le-leb (decimal 0 w) 18446744073709551615 (omega (arith, small-in (0 + length w) 10 (decimal 0 w) (omega arith) (decimal-small 0 0 w t (omega arith))))

    go : (d : Bool) → every is_digit w ≡ d
        → ◌≡◌ {A = Option ℕ} (cond (is_digits 20 w && leb (decimal 0 w) 18446744073709551615) (some (decimal 0 w)) none)
        (cond (is_digits 10 w) (some (decimal 0 w)) none)
    go true e = simp (a, b, c (T_true e), and-true)
    go false e = simp e

-- and one of at most nineteen where it is a place
pub seed-place : (w : List ℕ) → length w ≤ 19 → seed_of w ≡ place_of w
unfolding seed_of place_of
seed-place w h = go (every is_digit w) refl
  where
    a : leb (length w) 20 ≡ true
    a = le-leb (length w) 20 (omega arith)

    b : leb (length w) 19 ≡ true
    b = le-leb (length w) 19 h

    c : T (every is_digit w) → leb (decimal 0 w) 18446744073709551615 ≡ true
    c t = le-leb (decimal 0 w) 18446744073709551615 (omega (arith, small-in (0 + length w) 19 (decimal 0 w) (omega arith) (decimal-small 0 0 w t (omega arith))))

    go : (d : Bool) → every is_digit w ≡ d
        → ◌≡◌ {A = Option ℕ} (cond (is_digits 20 w && leb (decimal 0 w) 18446744073709551615) (some (decimal 0 w)) none)
        (cond (is_digits 19 w) (some (decimal 0 w)) none)
    go true e = simp (a, b, c (T_true e), and-true)
    go false e = simp e

pub not-place : (w : List ℕ) → 19 < length w → none ≡ place_of w
unfolding place_of
not-place w h = rw (overlong 19 w h)

-- one that is longer is none
pub not-number : (w : List ℕ) → 10 < length w → none ≡ number_of w
unfolding number_of
not-number w h = rw (numbers.overlong w h)

-- ---- the loop

-- the first i bytes of w are digits and stand for total
pub record Reading (w : List ℕ) (total i : ℕ) : Type 0 where
  pub value : decimal 0 w ≡ decimal total (drop i w)
  pub digits : every is_digit w ≡ every is_digit (drop i w)
  pub small : total ≤ 18446744073709551615

pub start : (w : List ℕ) → Reading w 0 0
start w = record { value = refl; digits = refl; small = omega arith }

digit : (b : ℕ) → 48 ≤ b → b < 58 → is_digit b ≡ true
digit b p q =
    let r : b ≤ 57 = omega arith in
    simp (le-leb _ _ p, le-leb _ _ r)

module _ {w : List ℕ} {total i : ℕ} (r : Reading w total i) where
  rest : i < length w → drop i w ≡ get_or w i 0 ∷ drop (i + 1) w
  rest p = rw (add-one, drop-cons w i 0 p)

  -- a byte that is no digit
  pub other : i < length w → is_digit (get_or w i 0) ≡ false → none ≡ seed_of w
  other p d =
      let e : every is_digit w ≡ false = r.digits ∙ ap (every is_digit) (rest p) ∙ simp d in
      no-digits w (simp e)

  -- a digit d
  module _ (p : i < length w) (d : ℕ) (e : d ≡ get_or w i 0 - 48) where
    next-value : decimal 0 w ≡ decimal (total * 10 + d) (drop (i + 1) w)
    unfolding decimal
    next-value = r.value ∙ ap (decimal total) (rest p) ∙ ap (λ (x : ℕ). decimal (total * 10 + x) (drop (i + 1) w)) (sym e)

    pub turn : 48 ≤ get_or w i 0 → get_or w i 0 < 58 → total * 10 + d ≤ 18446744073709551615 → Reading w (total * 10 + d) (i + 1)
    turn lo hi s =
        record {
          value = next-value;
          digits = r.digits ∙ ap (every is_digit) (rest p) ∙ and-before _ _ (digit (get_or w i 0) lo hi);
          small = s;
        }

    -- with it the number is too large
    pub over : 18446744073709551615 < total * 10 + d → none ≡ seed_of w
    over h = too_large w (omega (arith, ap (λ (x : ℕ). x) next-value, grows (total * 10 + d) (drop (i + 1) w)))

  module _ (p : length w ≤ i) where
    ended : drop i w ≡ []
    ended = drop_of_length-le w p

    all : T (every is_digit w)
    all = T_true (r.digits ∙ ap (every is_digit) ended)

    is : is_digits 20 w ≡ true → some total ≡ seed_of w
    unfolding seed_of decimal
    is e =
        let v : decimal 0 w ≡ total = r.value ∙ ap (decimal total) ended in
        rw (e, v, le-leb total 18446744073709551615 r.small)

    pub one : length w ≡ 1 → some total ≡ seed_of w
    one h = is (single w all h)

    pub many : 1 < length w → length w ≤ 20 → (get_or w 0 0 ≡ 48 → ⊥) → some total ≡ seed_of w
    many h g n = is (several w all h g ∙ ap not (ne_eqb _ _ n))

    pub padded : 1 < length w → length w ≤ 20 → get_or w 0 0 ≡ 48 → none ≡ seed_of w
    padded h g n = no-digits w (several w all h g ∙ ap not (eq-eqb _ _ n))
