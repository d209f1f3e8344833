-- Bits of numbers, counted from 0 at the least significant. Assumes nothing.
use Rattle.std.specs.Prelude.{Bool, true, false, ℕ, zero, suc, ◌/◌, ◌%◌, ◌^◌}

abbrev pub nonzero : ℕ → Bool
nonzero zero = false
nonzero (suc n) = true

abbrev pub odd : ℕ → Bool
odd n = nonzero (n % 2)

-- bit p of x
unfoldable pub bit : ℕ → ℕ → Bool
bit x p = odd (x / 2 ^ p)
