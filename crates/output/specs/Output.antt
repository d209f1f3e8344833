-- What writing a text to a position of an output asks and leaves. Assumes nothing.
use Rattle.std.specs.Prelude.{◌≡◌, List, ◌++◌, ℕ, ◌+◌, ◌≤◌, length, take, drop}

-- the output with the text at `at`
unfoldable pub put_text : List ℕ → ℕ → List ℕ → List ℕ
put_text out at text = take at out ++ text ++ drop (at + length text) out

-- the output has room for the text at `at`
abbrev pub Room : List ℕ → ℕ → List ℕ → Type 0
Room out at text = at + length text ≤ length out

-- out' is the output with the text at `at`, and end the position past the text
pub record Placed (out : List ℕ) (at : ℕ) (text : List ℕ) (end : ℕ) (out' : List ℕ) : Type 0 where
  pub past : end ≡ at + length text
  pub contents : out' ≡ put_text out at text
