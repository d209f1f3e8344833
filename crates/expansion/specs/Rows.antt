-- A witness of the free inputs alone, written out for all inputs. Assumes nothing.
use Rattle.std.specs.Prelude.{Bool, cond, List, [], ◌∷◌, ◌++◌, ℕ, zero, suc, ◌+◌, eqb, get_or, take}
use Rattle.aiger.specs.Text.{bytes}
use Rattle.aiger.specs.Witness.{bit_line}
use Rattle.pins.specs.Pins.{fill, free_inputs}

abbrev pub byte_of : Bool → ℕ
byte_of b = cond b 49 48

-- the bits that stand in a text from a position on
abbrev pub bits_at : List ℕ → ℕ → ℕ → Bool
bits_at text from j = eqb (get_or text (from + j) 0) 49

-- f rows of n inputs, whose free ones stand as lines in a text from a position on, and the line that ends a witness
unfoldable pub rows_text : List ℕ → (ℕ → ℕ) → ℕ → ℕ → ℕ → List ℕ
rows_text text q n from zero = bytes ".\n"
rows_text text q n from (suc f) = bit_line (fill q (bits_at text from) 0 0 n) ++ rows_text text q n (from + free_inputs q n + 1) f

-- the first bytes of a text, and the rows that follow them, in full
unfoldable pub expanded : List ℕ → (ℕ → ℕ) → ℕ → ℕ → ℕ → List ℕ
expanded text q n start f = take start text ++ rows_text text q n start f
