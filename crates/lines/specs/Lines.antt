-- What reading a line of numbers, and a run of lines, answers and stores. Assumes nothing.
use Rattle.std.specs.Prelude as std
use Rattle.std.specs.Prelude.{◌≡◌, Bool, true, cond, List, [], ◌∷◌, ◌++◌, map, ℕ, zero, suc, ◌+◌, ◌*◌, ◌^◌, ◌≤◌, ◌<◌, leb, length, get_or, take, drop}
use Rattle.std.proofs.Math.Option.{Option, none, some}
use Rattle.std.proofs.lemmas.List.Edits.{sets}
use Rattle.aiger.specs.Lists.{every}
use Rattle.aiger.specs.Text.{Token, spaced, ended, malformed, token, row, rows}
use Rattle.lines.specs.declared.Row.{Row}
use Rattle.lines.specs.declared.Rows.{Rows}

-- a line of count numbers from `at` to `next`; the buffer was `before`, and is `after`: the numbers, then what it had there
pub record RowRead (s : List ℕ) (at most : ℕ) (before after : List ℕ) (count next : ℕ) : Type 0 where
  pub meaning : row most (drop at s) ≡ some (take count after, drop next s)
  pub any : 1 ≤ count
  pub few : count ≤ most
  pub inside : next ≤ length s
  pub small : (i : ℕ) → i < count → get_or after i 0 < 10 ^ 10
  pub rest : (i : ℕ) → count ≤ i → get_or after i 0 ≡ get_or before i 0

-- r is the line that stands at `at` in s
abbrev pub RowAt : List ℕ → ℕ → ℕ → List ℕ → List ℕ → std.Option Row → Type 0
RowAt s at most before after (std.Some r) = RowRead s at most before after r.count r.next
RowAt s at most before after std.None = row most (drop at s) ≡ none

-- the number that a token is, and what its line has after it
abbrev pub number_then : Token → (List ℕ → List ℕ) → List ℕ
number_then (spaced n f) more = n ∷ more f
number_then (ended n f) more = n ∷ []
number_then malformed more = []

-- the numbers at the front of a line, at most `most`, up to one that is malformed: what reading the line stores
unfoldable pub begun : ℕ → List ℕ → List ℕ
begun zero f = []
begun (suc most) f = number_then (token f) (λ g. begun most g)

-- exactly k numbers: those of r, then zeros
unfoldable pub padded : ℕ → List ℕ → List ℕ
padded zero r = []
padded (suc k) [] = 0 ∷ padded k []
padded (suc k) (x ∷ r) = x ∷ padded k r

-- the rows one after the other, each as k numbers
unfoldable pub flat : ℕ → List (List ℕ) → List ℕ
flat k [] = []
flat k (r ∷ rs) = padded k r ++ flat k rs

-- a number, 0 where it is above the limit
unfoldable pub narrowed : ℕ → ℕ → ℕ
narrowed limit x = cond (leb x limit) x 0

-- every number is within the limit
abbrev pub within : ℕ → List ℕ → Bool
within limit xs = every (λ x. leb x limit) xs

-- the first `most` words are tested, and stored from `from` on
pub record Stored (words : List ℕ) (most limit : ℕ) (before : List ℕ) (from : ℕ) (after : List ℕ) (fits : Bool) : Type 0 where
  pub tested : fits ≡ within limit (take most words)
  pub contents : after ≡ sets before from (map (narrowed limit) (take most words))

-- a line of `least` to `most` numbers from `at` to `next`, tested and stored as `most` words
pub record LineRead (s : List ℕ) (at least most limit : ℕ) (before : List ℕ) (from : ℕ) (after : List ℕ) (next : ℕ) (fits : Bool)
    : Type 0 where
  pub line : List ℕ
  pub meaning : row most (drop at s) ≡ some (line, drop next s)
  pub enough : least ≤ length line
  pub inside : next ≤ length s
  pub tested : fits ≡ within limit line
  pub contents : after ≡ sets before from (map (narrowed limit) (padded most line))

-- malformed, or too few numbers
abbrev pub NoLine : ℕ → Option (List ℕ × List ℕ) → Type 0
NoLine least none = Unit {0}
NoLine least (some r) = length r.0 < least

abbrev pub LineAt : List ℕ → ℕ → ℕ → ℕ → ℕ → List ℕ → ℕ → List ℕ → std.Option Rows → Type 0
LineAt s at least most limit before from after (std.Some r) = LineRead s at least most limit before from after r.next r.fits
LineAt s at least most limit before from after std.None = NoLine least (row most (drop at s)) × (after ≡ before)

-- what follows from a line of at least `least` numbers and the text after it, and nothing where there is none
abbrev pub on_line : ℕ → Option (List ℕ × List ℕ) → (List ℕ → List ℕ → List ℕ) → List ℕ
on_line least none more = []
on_line least (some r) more = cond (leb least (length r.0)) (more r.0 r.1) []

-- the words of the lines at the front of a text, at most n, up to one that is malformed or has too few numbers: what reading n lines
-- stores
unfoldable pub rows_left : ℕ → ℕ → ℕ → ℕ → List ℕ → List ℕ
rows_left least most limit zero f = []
rows_left least most limit (suc n) f =
    on_line least (row most f) (λ r g. map (narrowed limit) (padded most r) ++ rows_left least most limit n g)

-- n lines from `at` to `next`, tested, and stored from `from` on if every number is within the limit
pub record RowsRead (s : List ℕ) (at least most n limit : ℕ) (before : List ℕ) (from : ℕ) (after : List ℕ) (next : ℕ) (fits : Bool)
    : Type 0 where
  pub lines : List (List ℕ)
  pub meaning : rows least most n (drop at s) ≡ some (lines, drop next s)
  pub inside : next ≤ length s
  pub tested : fits ≡ every (within limit) lines
  pub contents : fits ≡ true → after ≡ take from before ++ flat most lines ++ drop (from + n * most) before

abbrev pub RowsAt : List ℕ → ℕ → ℕ → ℕ → ℕ → ℕ → List ℕ → ℕ → List ℕ → std.Option Rows → Type 0
RowsAt s at least most n limit before from after (std.Some r) =
    RowsRead s at least most n limit before from after r.next r.fits
RowsAt s at least most n limit before from after std.None = rows least most n (drop at s) ≡ none
