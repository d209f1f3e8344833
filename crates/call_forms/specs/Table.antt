-- Clause 12.7: the operations, each with what it takes, who may call it, and what it may change. Assumes nothing.
use Rattle.std.specs.Prelude.{List, [], ◌∷◌, ℕ}
use Rattle.aiger.specs.Text.{bytes}

-- what a call may change beside working memory and the output: nothing; the pins of its user; or the circuit memory and what users share
pub data Changes : Type 0 where
  nothing : Changes
  own_pins : Changes
  circuit : Changes

-- an operation: its name, how many numbers it takes and how many files or texts, the last user who may call it, and what it may change
pub record Row : Type 0 where
  pub name : List ℕ
  pub arguments : ℕ
  pub files : ℕ
  pub last : ℕ
  pub changes : Changes

abbrev pub load_row : Row
load_row = record { name = bytes "load"; arguments = 0; files = 1; last = 0; changes = Changes.circuit }

abbrev pub pin_row : Row
pin_row = record { name = bytes "pin"; arguments = 2; files = 0; last = 1; changes = Changes.own_pins }

abbrev pub search_row : Row
search_row = record { name = bytes "search"; arguments = 3; files = 0; last = 1; changes = Changes.nothing }

abbrev pub search_from_row : Row
search_from_row = record { name = bytes "search-from"; arguments = 4; files = 0; last = 1; changes = Changes.nothing }

abbrev pub fold_row : Row
fold_row = record { name = bytes "fold"; arguments = 2; files = 0; last = 1; changes = Changes.nothing }

abbrev pub write_row : Row
write_row = record { name = bytes "write"; arguments = 1; files = 0; last = 1; changes = Changes.nothing }

abbrev pub preview_row : Row
preview_row = record { name = bytes "preview"; arguments = 0; files = 1; last = 1; changes = Changes.nothing }

abbrev pub join_row : Row
join_row = record { name = bytes "join"; arguments = 0; files = 2; last = 0; changes = Changes.circuit }

abbrev pub replay_row : Row
replay_row = record { name = bytes "replay"; arguments = 0; files = 1; last = 1; changes = Changes.nothing }

abbrev pub widen_row : Row
widen_row = record { name = bytes "widen"; arguments = 0; files = 1; last = 1; changes = Changes.nothing }

abbrev pub waveform_row : Row
waveform_row = record { name = bytes "waveform"; arguments = 0; files = 1; last = 1; changes = Changes.nothing }

abbrev pub generate_row : Row
generate_row = record { name = bytes "generate"; arguments = 4; files = 0; last = 1; changes = Changes.nothing }

-- the table of operations
abbrev pub operations : List Row
operations =
    load_row ∷ pin_row ∷ search_row ∷ search_from_row ∷ fold_row ∷ write_row ∷ preview_row ∷ join_row ∷ replay_row ∷ widen_row ∷ waveform_row
    ∷ generate_row ∷ []
