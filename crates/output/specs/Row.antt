-- The text of a line of numbers: a space after each number but the last, and a line feed after that. Assumes nothing.
use Rattle.std.specs.Prelude.{cond, List, [], ◌∷◌, ◌++◌, ℕ, zero, suc, eqb, get_or}
use Rattle.aiger.specs.Text.{digits, long_digits}

-- the byte after a number, where `left` numbers follow it in its line: a line feed after the last, a space after each other
abbrev pub ending : ℕ → ℕ
ending left = cond (eqb left 0) 10 32

-- a number and the byte after it
abbrev pub number_text : ℕ → ℕ → List ℕ
number_text n left = digits n ++ ending left ∷ []

-- the end of a line that tells a frame and a place in it
abbrev pub place_text : ℕ → ℕ → List ℕ
place_text t place = number_text t 1 ++ (long_digits place ++ 10 ∷ [])

-- the line of n words from position p on; no byte where n is 0
unfoldable pub row_text : List ℕ → ℕ → ℕ → List ℕ
row_text m p zero = []
row_text m p (suc n) = number_text (get_or m p 0) n ++ row_text m (suc p) n
