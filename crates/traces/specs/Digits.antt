-- A start place and rows as the digits of a number. Assumes nothing.
use Rattle.std.specs.Prelude.{◌≡◌, List, ℕ, zero, suc, ◌+◌, ◌*◌, ◌<◌, get_or}

-- words 0 to u of trace are the digits of z: word 0 the first, then rows
unfoldable pub Digits : ℕ → List ℕ → ℕ → ℕ → Type 0
Digits rows trace zero z = z ≡ get_or trace 0 0
Digits rows trace (suc u) z = (get_or trace (suc u) 0 < rows) × ((y : ℕ) × Digits rows trace u y × (z ≡ y * rows + get_or trace (suc u) 0))
