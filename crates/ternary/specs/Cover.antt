-- What entries of literals and bytes of a witness allow, and what the functions ask of the memory. Assumes nothing.
use Rattle.std.specs.Prelude.{◌≡◌, Bool, not, List, ℕ, ◌+◌, ◌*◌, ◌≤◌, ◌<◌, T, length, get_or}
use Rattle.aiger.specs.Circuit.{var}
use Rattle.aiger.specs.Frames.{value}
use Rattle.layout.specs.Words.{word}
use Rattle.ternary.specs.declared.Column.{Column}

-- entry l is 1 where w makes literal l true
pub record Covers (can : List ℕ) (w : ℕ → Bool) : Type 0 where
  pub may : (l : ℕ) → l < length can → T (value w l) → get_or can l 0 ≡ 1

-- a byte of a witness allows value b: `0` and `1` allow themselves only
pub record Allows (byte : ℕ) (b : Bool) : Type 0 where
  pub true-one : T b → byte ≡ 48 → ⊥
  pub false-one : T (not b) → byte ≡ 49 → ⊥

-- a gate's words stand at `at`, and `size` entries hold its literals
pub record Room (m : List ℕ) (at size : ℕ) : Type 0 where
  pub inside : at + 2 < length m
  pub lit : 2 * var (word m at) + 1 < size
  pub left : 2 * var (word m (at + 1)) + 1 < size
  pub right : 2 * var (word m (at + 2)) + 1 < size

-- variable i of a column
abbrev pub column_var : List ℕ → Column → ℕ → ℕ
column_var m column i = var (word m (column.first + column.step * i))

-- a line of bits at `at` for the variables of a column
pub record LineRoom (m : List ℕ) (column : Column) (text : List ℕ) (at size : ℕ) : Type 0 where
  pub words : (i : ℕ) → i < column.count → column.first + column.step * i < length m
  pub small : (i : ℕ) → i < column.count → 2 * column_var m column i + 1 < size
  pub inside : at + column.count ≤ length text
