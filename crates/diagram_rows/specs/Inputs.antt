-- The rows of the inputs that matter among the rows of all inputs of a circuit. Rows count as sequences do: the first input is the most
-- significant bit. Assumes nothing.
use Rattle.std.specs.Prelude.{◌≡◌, Bool, List, ℕ, ◌+◌, ◌-◌, ◌<◌, length, get_or}
use Rattle.aiger.specs.Frames.{free_bit}
use Rattle.support.specs.Counting.{spread}

-- position i of the number of a row of n inputs is that of an input that matters
abbrev pub positions : (ℕ → Bool) → ℕ → ℕ → Bool
positions matters n i = matters (n - (i + 1))

-- the row of n inputs with the bits of row r at the inputs that matter, and 0 at the others
abbrev pub wide_row : (ℕ → Bool) → ℕ → ℕ → ℕ
wide_row matters n r = spread (positions matters n) n r

-- row q of n inputs has the bits of row r at these inputs
pub record SameBits (n : ℕ) (inputs : List ℕ) (q r : ℕ) : Type 0 where
  pub below : (k : ℕ) → k < length inputs → get_or inputs k 0 < n
  pub bits : (k : ℕ) → k < length inputs → free_bit n q (get_or inputs k 0) ≡ free_bit (length inputs) r k
