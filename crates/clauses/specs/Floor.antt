-- The floor: a place below which there is no hit. A place is a number below 2 to the power n, and free bit j is its bit n - 1 - j.
-- Assumes nothing.
use Rattle.std.specs.Prelude.{◌≡◌, Bool, ℕ, zero, suc, ◌+◌, ◌-◌, ◌*◌, ◌/◌, ◌^◌, ◌≤◌, ◌<◌, T}
use Rattle.aiger.specs.Frames.{value, free_bit}
use Rattle.aiger.specs.Bits.{bit}

-- val x gives the values of all nodes at place x: node j + 1 is free bit j
abbrev pub Free : ℕ → (ℕ → ℕ → Bool) → Type 0
Free n val = (x j : ℕ) → j < n → val x (j + 1) ≡ free_bit n x j

-- no place below the floor hits
abbrev pub Floor : (ℕ → Type 0) → ℕ → Type 0
Floor hits p = (x : ℕ) → hits x → p ≤ x

-- the number that the first v of the bits b 1, b 2, .. make, the first the most significant
unfoldable pub prefix : (ℕ → ℕ) → ℕ → ℕ
prefix b zero = 0
prefix b (suc v) = 2 * prefix b v + b (suc v)

-- each hit is above all places whose first v bits are these
abbrev pub Above : (ℕ → Type 0) → ℕ → (ℕ → ℕ) → ℕ → Type 0
Above hits n b v = (x : ℕ) → hits x → prefix b v < x / 2 ^ (n - v)
