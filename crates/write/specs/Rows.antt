-- The text of the lines that words encode: numbers and rows of numbers by their positions in circuit memory. Assumes nothing.
use Rattle.std.specs.Prelude.{cond, List, [], ◌∷◌, ◌++◌, ℕ, zero, suc, ◌+◌, ◌-◌, ◌*◌, ◌≤◌, ◌<◌, eqb, length}
use Rattle.output.specs.Row.{row_text}
use Rattle.layout.specs.Words.{word}
use Rattle.layout.specs.declared.Section.{Section}

-- how many of the `most` words at p their line has: `least` where the last is 0
abbrev pub row_count : ℕ → ℕ → List ℕ → ℕ → ℕ
row_count least most m p = cond (eqb (word m (p + (most - 1))) 0) least most

-- n lines of `least` to `most` numbers, `most` words each, from position p on
unfoldable pub rows_text : ℕ → ℕ → List ℕ → ℕ → ℕ → List ℕ
rows_text least most m p zero = []
rows_text least most m p (suc n) = row_text m p (row_count least most m p) ++ rows_text least most m (p + most) n

-- n rows of `most` words from position p on stand in the memory
pub record RowsIn (m : List ℕ) (p n most : ℕ) : Type 0 where
  pub inside : p + n * most ≤ length m
  pub few : n ≤ 65536
  pub some_word : 0 < most
  pub wide : most ≤ 3

-- the text of a section
abbrev pub section_text : List ℕ → Section → List ℕ
section_text m t = rows_text t.least t.most m t.at t.rows

-- a section stands in the memory
abbrev pub SectionIn : List ℕ → Section → Type 0
SectionIn m t = RowsIn m t.at t.rows t.most × (t.least ≤ t.most)
