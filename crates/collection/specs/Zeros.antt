-- Words of which some are 0 and the others as before. Assumes nothing.
use Rattle.std.specs.Prelude.{◌≡◌, List, ◌⊎◌, ℕ, ◌≤◌, ◌<◌, length, get_or}

-- the words from `from` on, before `to`, are 0
pub record Zeroed (old new : List ℕ) (from to : ℕ) : Type 0 where
  pub long : length new ≡ length old
  pub inside : (j : ℕ) → from ≤ j → j < to → get_or new j 0 ≡ 0
  pub outside : (j : ℕ) → (j < from) ⊎ (to ≤ j) → get_or new j 0 ≡ get_or old j 0
