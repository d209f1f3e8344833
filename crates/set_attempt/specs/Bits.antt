-- The free bits of a sequence, from a start state and the rows of its frames. Assumes nothing.
use Rattle.std.specs.Prelude.{Bool, false, cond, List, ℕ, ◌-◌, ◌/◌, ◌%◌, ltb, length, get_or}
use Rattle.aiger.specs.Frames.{free_bit}
use Rattle.transitions.specs.Transitions.{rank_in}
use Rattle.set_walk.specs.Walk.{bits_of}

-- the value of input i in row r of the inputs that matter: 0 where it does not matter
unfoldable pub input_value : List ℕ → ℕ → ℕ → Bool
input_value inputs r i = cond (ltb (rank_in inputs i) (length inputs)) (free_bit (length inputs) r (rank_in inputs i)) false

-- free bit j of the sequence: the free latches in the start state, then `width` inputs for each row of the trace
unfoldable pub free_value : (frees bits inputs trace : List ℕ) (width j : ℕ) → Bool
free_value frees bits inputs trace width j =
    cond (ltb j (length frees)) (bits_of bits (get_or frees j 0))
    (input_value inputs (get_or trace ((j - length frees) / width) 0) ((j - length frees) % width))
