-- Whether a user holds an input of the circuit in memory. Assumes nothing.
use Rattle.std.specs.Prelude.{Bool, not, cond, List, ℕ, leb}
use Rattle.aiger.specs.Lists.{every_below}
use Rattle.layout.specs.Words.{word}
use Rattle.pins.specs.Pins.{is_held}

-- none of the first n pins holds its input
unfoldable pub none_held : (ℕ → ℕ) → ℕ → Bool
none_held q n = every_below n (λ i. not (is_held (q i)))

-- how many inputs the words say; no circuit has more than 256
abbrev pub inputs_said : List ℕ → ℕ
inputs_said m = cond (leb (word m 1) 256) (word m 1) 256
