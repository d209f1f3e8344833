-- The 64-pattern words by which merges are proposed. Assumes nothing.
use Rattle.std.specs.Prelude.{◌≡◌, Bool, not, cond, ℕ, zero, suc, ◌+◌, ◌-◌, ◌*◌, ◌%◌, ◌^◌, ◌<◌, ◌≤◌, ltb}
use Rattle.aiger.specs.Bits.{bit}

-- Clause 5.7: one step of Knuth's MMIX generator
unfoldable pub step : ℕ → ℕ
step s = (s * 6364136223846793005 + 1442695040888963407) % 2 ^ 64

-- Clause 5.7: draws are counted from 1 and start from state 1: draw i is the state that i steps lead to
unfoldable pub draw : ℕ → ℕ
draw zero = 1
draw (suc i) = step (draw i)

-- Clause 5.7: the value of free bit j in pattern p: a binary digit of p for the first six, after these a bit of a draw
unfoldable pub pattern_bit : ℕ → ℕ → Bool
pattern_bit j p = cond (ltb j 6) (bit p j) (bit (draw (j - 5)) p)

-- w is the 64-pattern word of a function of the patterns
pub record PatternWord (value : ℕ → Bool) (w : ℕ) : Type 0 where
  pub fits : w < 2 ^ 64
  pub bits : (p : ℕ) → p < 64 → bit w p ≡ value p

-- Clause 5.8: the lowest pattern in which two words differ, as many as they have bits where they are equal: r of words a and b of w bits
pub record FirstDifference (w a b r : ℕ) : Type 0 where
  pub within : r ≤ w
  pub below : (p : ℕ) → p < r → bit a p ≡ bit b p
  pub here : r < w → bit a r ≡ not (bit b r)
  pub equal : r ≡ w → a ≡ b
  pub none : a ≡ b → r ≡ w
