-- Laws of a line of numbers: one number more, its length, and that it is a line of the format. Assumes nothing.
use mathlib.Core.Path.{◌≡◌, refl, ap, ◌∙◌}
use mathlib.Core.List.{List, [], ◌∷◌, ◌++◌, append-nil}
use Prim.Native.Nat.{ℕ, zero, suc, ◌+◌, ◌-◌, ◌*◌, ◌≤◌, ◌<◌}
use native.Mathlib.Numerals.{add-one}
use native.Mathlib.Omega.{arith}
use lib.Dec.{eqb-suc-zero}
use lib.ListN.{length, get_or, length-append}
use Rattle.aiger.specs.Text.{digits, long_digits}
use Rattle.aiger.specs.Write.{line_of}
use Rattle.numbers.proofs.Digits.{digits-most}
use Rattle.output.specs.Row.{ending, number_text, place_text, row_text}

-- n words from position p on
abbrev pub words_from : List ℕ → ℕ → ℕ → List ℕ
words_from m p zero = []
words_from m p (suc n) = get_or m p 0 ∷ words_from m (suc p) n

module _ (m : List ℕ) where
  -- one number more
  pub row_more : (p n : ℕ) → 0 < n → row_text m p n ≡ number_text (get_or m p 0) (n - 1) ++ row_text m (p + 1) (n - 1)
  unfolding row_text
  row_more p zero h = absurd (omega arith)
  row_more p (suc n) h = let e : suc n - 1 ≡ n = omega arith in rw (e, add-one p)

  -- none
  pub row-none : (p n : ℕ) → n ≤ 0 → row_text m p n ≡ []
  unfolding row_text
  row-none p zero h = refl
  row-none p (suc n) h = absurd (omega arith)

  -- the length of one number more
  pub row-longer : (p n : ℕ) → 0 < n → length (row_text m p n) ≡ length (digits (get_or m p 0)) + 1 + length (row_text m (p + 1) (n - 1))
  row-longer p n h =
      ap length (row_more p n h)
      ∙ omega (
        arith,
        length-append (number_text (get_or m p 0) (n - 1)) (row_text m (p + 1) (n - 1)),
        length-append (digits (get_or m p 0)) (ending (n - 1) ∷ []),
      )

  -- the length of a row
  pub row-most : (p n : ℕ) → length (row_text m p n) ≤ 11 * n
  unfolding row_text
  row-most p zero = omega arith
  row-most p (suc n) =
      omega (
        arith,
        length-append (number_text (get_or m p 0) n) (row_text m (suc p) n),
        length-append (digits (get_or m p 0)) (ending n ∷ []),
        digits-most 9 (get_or m p 0),
        row-most (suc p) n,
      )

  -- a row is a line
  pub row_line : (p n : ℕ) → row_text m p (suc n) ≡ line_of (get_or m p 0) (words_from m (suc p) n)
  unfolding row_text line_of
  row_line p zero = append-nil (digits (get_or m p 0) ++ 10 ∷ [])
  row_line p (suc n) = simp (eqb-suc-zero n) (ap (λ (w : List ℕ). digits (get_or m p 0) ++ 32 ∷ [] ++ w) (row_line (suc p) n))

-- a frame and a place have at most 32 bytes
pub place_short : (t R : ℕ) → length (place_text t R) ≤ 32
place_short t R =
    omega (
      arith,
      length-append (number_text t 1) (long_digits R ++ 10 ∷ []),
      length-append (digits t) (ending 1 ∷ []),
      length-append (long_digits R) (10 ∷ []),
      digits-most 9 t,
      digits-most 19 R,
    )
