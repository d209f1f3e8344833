-- The last number that passes a test. Assumes nothing.
use Rattle.std.specs.Prelude.{Bool, cond, ℕ, zero, suc}

-- one more than the last number below n that passes, or 0
unfoldable pub last_before : (ℕ → Bool) → ℕ → ℕ
last_before p zero = 0
last_before p (suc n) = cond (p n) (suc n) (last_before p n)
