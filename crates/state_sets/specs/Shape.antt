-- How many variables and rows there may be, and where their edges stand in a table. Assumes nothing.
use Rattle.std.specs.Prelude.{ℕ, ◌+◌, ◌*◌, ◌≤◌}
use Rattle.state_sets.specs.declared.Shape.{Shape}

-- where the edges of row r stand in a table
unfoldable pub row_at : ℕ → ℕ → ℕ
row_at vars r = 258 + r * (vars + 2)

-- up to 256 variables and 16 rows, each with room in a table of so many words, and one word more
pub record Fits (s : Shape) (words : ℕ) : Type 0 where
  pub vars : s.vars ≤ 256
  pub rows : s.rows ≤ 16
  pub room : 259 + s.rows * (s.vars + 2) ≤ words
