-- Counting over some of the positions of a number, position 0 the least significant. Assumes nothing.
use Rattle.std.specs.Prelude.{Bool, cond, ℕ, zero, suc, ◌+◌, ◌*◌, ◌/◌, ◌%◌, ◌^◌, ◌≤◌, ◌<◌, T, leb}

-- the positions from 1 on, as positions from 0 on
abbrev pub after : (ℕ → Bool) → ℕ → Bool
after s i = s (suc i)

-- how many positions below i are in s
unfoldable pub rank : (ℕ → Bool) → ℕ → ℕ
rank s zero = 0
rank s (suc i) = cond (s 0) 1 0 + rank (after s) i

-- the number below 2 to the power n whose bits at the positions in s are the bits of y in their order, and whose other bits are 0
unfoldable pub spread : (ℕ → Bool) → ℕ → ℕ → ℕ
spread s zero y = 0
spread s (suc n) y = cond (s 0) (2 * spread (after s) n (y / 2) + y % 2) (2 * spread (after s) n y)

-- how many numbers below 2 to the power n are passed when D numbers are spread: all of them where D are enough
unfoldable pub passed : (ℕ → Bool) → ℕ → ℕ → ℕ
passed s n D = cond (leb (2 ^ rank s n) D) (2 ^ n) (spread s n D)

-- r is the least number below total that passes, or total
pub record First (passes : ℕ → Bool) (total r : ℕ) : Type 0 where
  pub within : r ≤ total
  pub before : (x : ℕ) → x < r → T (passes x) → ⊥
  pub here : r < total → T (passes r)
