-- A machine with numbered states and rows, and what its sequences do. Assumes nothing.
use Rattle.std.specs.Prelude.{Bool, false, ℕ, zero, suc, ◌*◌, ◌/◌, ◌%◌}
use Rattle.std.proofs.Math.Option.{Option, none, some}

-- How many start places there are and the state of each; how many rows a frame has; the next state of a state and a row, or none where
-- the row is not allowed; whether a state and a row are a hit. Rows are tried in words of 64: `slots` is the number of rows, rounded up
-- to whole words.
pub record Machine : Type 0 where
  pub starts : ℕ
  pub rows : ℕ
  pub slots : ℕ
  pub start : ℕ → ℕ
  pub step : ℕ → ℕ → Option ℕ
  pub hit : ℕ → ℕ → Bool

-- A prefix of t frames is a start place followed by t rows, read as one number: prefix y of t + 1 frames is prefix y / rows of t frames
-- and row y % rows. How many there are:
unfoldable pub prefixes : Machine → ℕ → ℕ
prefixes m zero = m.starts
prefixes m (suc t) = prefixes m t * m.rows

abbrev pub stepped : Machine → Option ℕ → ℕ → Option ℕ
stepped m none r = none
stepped m (some s) r = m.step s r

-- the state in frame t after prefix y, or none where a row of y is not allowed
unfoldable pub state_after : Machine → ℕ → ℕ → Option ℕ
state_after m zero y = some (m.start y)
state_after m (suc t) y = stepped m (state_after m t (y / m.rows)) (y % m.rows)

abbrev pub hit_from : Machine → Option ℕ → ℕ → Bool
hit_from m none r = false
hit_from m (some s) r = m.hit s r

-- sequence x of frame t, which is a prefix of t frames and a row, is a hit
unfoldable pub hits_at : Machine → ℕ → ℕ → Bool
hits_at m t x = hit_from m (state_after m t (x / m.rows)) (x % m.rows)
