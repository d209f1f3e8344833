-- The columns of literals in a circuit's words, and what holds of each literal in one. Assumes nothing.
use Rattle.std.specs.Prelude.{List, ℕ, ◌+◌, ◌*◌, ◌<◌, length, get_or}
use Rattle.aiger.specs.Circuit.{defined}
use Rattle.layout.specs.Words.{word, latches_at, outputs_at, gates_at, circuit_in}
use Rattle.columns.specs.declared.Column.{Column}
use Rattle.columns.specs.declared.Role.{Role}
use Rattle.columns.specs.declared.Role.TheVariants.{Input, Latch, Gate, Next, Root, Left, Right}

-- word i of a column
abbrev pub at : List ℕ → Column → ℕ → ℕ
at w c i = word w (c.at + c.stride * i)

-- the words have the column
abbrev pub Inside : List ℕ → Column → Type 0
Inside w c = (i : ℕ) → i < c.n → c.at + c.stride * i < length w

-- P holds of each word of a column
abbrev pub Each : List ℕ → Column → (ℕ → Type 0) → Type 0
Each w c P = (i : ℕ) → i < c.n → P (at w c i)

abbrev pub spaced : ℕ → ℕ → ℕ → Column
spaced at stride n = record { at = at; stride = stride; n = n }

-- the column of the literals with a role
abbrev pub column_of : List ℕ → Role → Column
column_of w Input = spaced 7 1 (word w 1)
column_of w Latch = spaced (latches_at w) 3 (word w 2)
column_of w Gate = spaced (gates_at w) 3 (word w 4)
column_of w Next = spaced (latches_at w + 1) 3 (word w 2)
column_of w Root = spaced (outputs_at w) 1 (word w 3 + word w 5 + word w 6)
column_of w Left = spaced (gates_at w + 1) 3 (word w 4)
column_of w Right = spaced (gates_at w + 2) 3 (word w 4)

-- how many literals are defined
abbrev pub total : List ℕ → ℕ
total w = word w 1 + word w 2 + word w 4

-- literal i that is defined, in file order
unfoldable pub definition : List ℕ → ℕ → ℕ
definition w i = get_or (defined (circuit_in w)) i 0

-- P holds of each literal that is used
pub record Used (w : List ℕ) (P : ℕ → Type 0) : Type 0 where
  pub nexts : Each w (column_of w Next) P
  pub roots : Each w (column_of w Root) P
  pub lefts : Each w (column_of w Left) P
  pub rights : Each w (column_of w Right) P
