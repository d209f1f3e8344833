-- The parts of a generated text, in its order. Assumes nothing.
use Rattle.std.specs.Prelude.{List, [], ◌∷◌, ◌++◌, map, ℕ, ◌+◌, ◌*◌}
use Rattle.aiger.specs.Text.{bytes}
use Rattle.aiger.specs.Binary.{implied}
use Rattle.aiger.specs.Write.{line_of, lines_of, literal_row, latch_row, gate_row}
use Rattle.generated.specs.Generated.{drawn_latches, drawn_gates}

-- the header's line
abbrev pub head_text : ℕ → ℕ → ℕ → List ℕ
head_text I L A = bytes "aag " ++ line_of (I + L + A) (I ∷ L ∷ 0 ∷ A ∷ 1 ∷ [])

-- the lines of the inputs of k variables from v on
abbrev pub inputs_text : ℕ → ℕ → List ℕ
inputs_text v k = lines_of (map literal_row (implied v k))

-- the lines of the latches of k variables from v on, whose next literals are some of n, where the generator is at s
abbrev pub latches_text : ℕ → ℕ → ℕ → ℕ → List ℕ
latches_text n s v k = lines_of (map latch_row (drawn_latches n s v k))

-- the line of the bad literal
abbrev pub bad_text : ℕ → List ℕ
bad_text M = line_of (2 * M) []

-- the lines of the gates of k variables from v on, where the generator is at s
abbrev pub gates_text : ℕ → ℕ → ℕ → List ℕ
gates_text s v k = lines_of (map gate_row (drawn_gates s v k))
