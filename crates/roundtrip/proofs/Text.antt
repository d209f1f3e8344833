-- Numbers and lines: what is written is read back, and how long it is. Assumes nothing.
use mathlib.Core.Path.{◌≡◌, refl}
use mathlib.Core.Bool.{Bool, true, false, ◌&&◌}
use mathlib.Core.List.{List, [], ◌∷◌, ◌++◌, append_assoc}
use mathlib.Core.Option.{some}
use Prim.Native.Nat.{ℕ, zero, suc, ◌+◌, ◌*◌, ◌^◌, ◌≤◌, ◌<◌}
use native.Mathlib.Nat.{not-suc-le-zero, mul-suc, mul-le-mul_left}
use native.Mathlib.Omega.{arith}
use lib.Dec.{T, leb, ltb, leb→le, le→leb, ltb→lt, lt→ltb}
use borrow.Author.Tests.{le-leb}
use lib.ListN.{length, length-append}
use Rattle.aiger.specs.Lists.{every}
use Rattle.aiger.specs.Text.{bytes, row, rows, digits}
use Rattle.aiger.specs.Write.{line_of, lines_of}
use Rattle.aiger.proofs.Tests.{and_left, and_right, every-imp}
use Rattle.numbers.proofs.Digits.{digits-short}
use Rattle.numbers.proofs.ReadBack.{digits-spaced, digits-ended}

-- n is below the bound
abbrev pub below : ℕ → ℕ → Bool
below bound n = ltb n bound

-- a line of one to `most` numbers is read back
pub row_line : (most n : ℕ) (ns : List ℕ) → length ns < most → T (every (below (10 ^ 10)) (n ∷ ns)) → (f : List ℕ)
    → row most (line_of n ns ++ f) ≡ some (n ∷ ns, f)
unfolding row line_of
row_line zero n ns l h f = absurd (not-suc-le-zero l)
row_line (suc most) n [] l h f = simp (append_assoc, digits-ended n f (ltb→lt n (10 ^ 10) (and_left (below (10 ^ 10) n) true h)))
row_line (suc most) n (m ∷ ns) l h f =
    let b = below (10 ^ 10) in
    simp (
      append_assoc,
      digits-spaced n (line_of m ns ++ f) (ltb→lt n (10 ^ 10) (and_left (b n) (every b (m ∷ ns)) h)),
      row_line most m ns (omega arith) (and_right (b n) (every b (m ∷ ns)) h) f,
    )

-- a line of `least` to `most` numbers, one at least, each below the bound
abbrev pub row_fits : ℕ → ℕ → ℕ → List ℕ → Bool
row_fits bound least most [] = false
row_fits bound least most (n ∷ ns) = ltb (length ns) most && leb least (suc (length ns)) && every (below bound) (n ∷ ns)

-- what row_fits says of a line
pub record Row (bound least most n : ℕ) (ns : List ℕ) : Type 0 where
  pub short : length ns < most
  pub long : least ≤ suc (length ns)
  pub low : T (every (below bound) (n ∷ ns))

-- the test of a line, taken apart
pub row_fits_lem : (bound least most n : ℕ) (ns : List ℕ) → T (row_fits bound least most (n ∷ ns)) → Row bound least most n ns
row_fits_lem bound least most n ns h =
    let p = ltb (length ns) most in
    let q = leb least (suc (length ns)) in
    let r = every (below bound) (n ∷ ns) in
    record {
      short = ltb→lt (length ns) most (and_left p q (and_left (p && q) r h));
      long = leb→le least (suc (length ns)) (and_right p q (and_left (p && q) r h));
      low = and_right (p && q) r h;
    }

-- numbers below a bound are below a greater one
pub every-below : (a b : ℕ) → a ≤ b → (ns : List ℕ) → T (every (below a) ns) → T (every (below b) ns)
every-below a b l = every-imp (below a) (below b) (λ n h. lt→ltb n b (less n (ltb→lt n a h)))
  where
    less : (n : ℕ) → n < a → n < b
    less n h = omega arith

-- lines are read back
pub rows-lines : (bound least most : ℕ) → bound ≤ 10 ^ 10 → (ls : List (List ℕ)) → T (every (row_fits bound least most) ls) → (f : List ℕ)
    → rows least most (length ls) (lines_of ls ++ f) ≡ some (ls, f)
unfolding rows lines_of
rows-lines bound least most b [] h f = refl
rows-lines bound least most b ([] ∷ ls) h f = absurd h
rows-lines bound least most b ((n ∷ ns) ∷ ls) h f =
    let p = row_fits bound least most in
    let r = row_fits_lem bound least most n ns (and_left (p (n ∷ ns)) (every p ls) h) in
    simp (
      append_assoc,
      row_line most n ns r.short (every-below bound (10 ^ 10) b (n ∷ ns) r.low) (lines_of ls ++ f),
      le-leb least (suc (length ns)) r.long,
      rows-lines bound least most b ls (and_right (p (n ∷ ns)) (every p ls) h) f,
    )

-- a number below ten to the power j + 1 takes at most j + 2 bytes of its line
pub line-short : (j n : ℕ) (ns : List ℕ) → T (every (below (10 ^ suc j)) (n ∷ ns)) → length (line_of n ns) ≤ (j + 2) * suc (length ns)
unfolding line_of
line-short j n [] h =
    omega (
      arith,
      mul-suc (j + 2) 0,
      length-append (digits n) (bytes "\n"),
      digits-short 9 j n (ltb→lt n (10 ^ suc j) (and_left (below (10 ^ suc j) n) true h)),
    )
line-short j n (m ∷ ns) h =
    let b = below (10 ^ suc j) in
    omega (
      arith,
      mul-suc (j + 2) (suc (length ns)),
      length-append (digits n ++ bytes " ") (line_of m ns),
      length-append (digits n) (bytes " "),
      digits-short 9 j n (ltb→lt n (10 ^ suc j) (and_left (b n) (every b (m ∷ ns)) h)),
      line-short j m ns (and_right (b n) (every b (m ∷ ns)) h),
    )

-- the length of lines of at most `most` numbers
pub lines-short : (j least most : ℕ) (ls : List (List ℕ)) → T (every (row_fits (10 ^ suc j) least most) ls)
    → length (lines_of ls) ≤ (j + 2) * most * length ls
unfolding lines_of
lines-short j least most [] h = omega arith
lines-short j least most ([] ∷ ls) h = absurd h
lines-short j least most ((n ∷ ns) ∷ ls) h =
    let p = row_fits (10 ^ suc j) least most in
    let r = row_fits_lem (10 ^ suc j) least most n ns (and_left (p (n ∷ ns)) (every p ls) h) in
    omega (
      arith,
      mul-suc ((j + 2) * most) (length ls),
      mul-le-mul_left (j + 2) r.short,
      length-append (line_of n ns) (lines_of ls),
      line-short j n ns r.low,
      lines-short j least most ls (and_right (p (n ∷ ns)) (every p ls) h),
    )
