-- The literals of a circuit in memory by their places, and when a memory is ready to be read. Assumes nothing.
use Rattle.std.specs.Prelude.{cond, List, ℕ, ◌+◌, ◌*◌, ltb}
use Rattle.layout.specs.Words.{word}
use Rattle.layout.specs.declared.Layout.{Layout}
use Rattle.frames.specs.Lanes.{Ready}

-- word k of row j of so many rows of three words from `at` on, 0 past the last row
abbrev pub triple_word : List ℕ → ℕ → ℕ → ℕ → ℕ → ℕ
triple_word m at rows j k = cond (ltb j rows) (word m (at + 3 * j + k)) 0

-- word j of so many words from `at` on, 0 past the last one
abbrev pub single_word : List ℕ → ℕ → ℕ → ℕ → ℕ
single_word m at rows j = cond (ltb j rows) (word m (at + j)) 0

-- the circuit in memory m can be evaluated in some order
abbrev pub Prepared : List ℕ → Layout → Type 0
Prepared m layout = (order : List ℕ) × Ready m layout order 4097
