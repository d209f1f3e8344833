-- The start value of each latch: its reset, or the free bit whose place is the number of free latches before it. Assumes nothing.
use Rattle.std.specs.Prelude.{Bool, cond, ℕ, eqb, take}
use Rattle.aiger.specs.Lists.{tally}
use Rattle.aiger.specs.Circuit.{Circuit}
use Rattle.aiger.specs.Frames.{is_free, free_bit}
use Rattle.meaning.specs.Frame.{latch_at}

-- the number of latches with a free start before latch j
unfoldable pub free_before : Circuit → ℕ → ℕ
free_before c j = tally is_free (take j c.latches)

-- the start value of latch j in sequence x of n free bits
unfoldable pub start_bit : Circuit → ℕ → ℕ → ℕ → Bool
start_bit c n x j = cond (is_free (latch_at c j)) (free_bit n x (free_before c j)) (eqb (latch_at c j).reset 1)
