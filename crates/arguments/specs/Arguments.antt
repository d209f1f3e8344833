-- A number that is an argument of a program. Assumes nothing.
use Rattle.std.specs.Prelude as Prelude
use Rattle.std.specs.Prelude.{Bool, cond, not, ◌&&◌, ◌||◌, List, ℕ, leb, eqb, length, get_or}
use Rattle.std.proofs.Math.Option.{Option, none, some}
use Rattle.aiger.specs.Lists.{every}
use Rattle.aiger.specs.Text.{is_digit, is_number, decimal}

-- the number that a text is, in the file's form
unfoldable pub number_of : List ℕ → Option ℕ
number_of w = cond (is_number w) (some (decimal 0 w)) none

-- one to `most` digits, the first of several not 0
abbrev pub is_digits : ℕ → List ℕ → Bool
is_digits most w = every is_digit w && leb 1 (length w) && leb (length w) most && (not (eqb (get_or w 0 0) 48) || eqb (length w) 1)

-- Clause 12.12: the seed that a text is: one to twenty digits of a number that is at most 2^64 - 1
unfoldable pub seed_of : List ℕ → Option ℕ
seed_of w = cond (is_digits 20 w && leb (decimal 0 w) 18446744073709551615) (some (decimal 0 w)) none

-- Clause 12.11: the place that a text is: one to nineteen digits. Whether there is such a place the search decides
unfoldable pub place_of : List ℕ → Option ℕ
place_of w = cond (is_digits 19 w) (some (decimal 0 w)) none

-- an answer of the program
abbrev pub meant : {A : Type 0} → Prelude.Option A → Option A
meant (Prelude.Some v) = some v
meant Prelude.None = none
