-- Texts that complete a text, and texts of the same form, by position. Assumes nothing.
use Rattle.std.specs.Prelude.{◌≡◌, Bool, cond, ◌||◌, List, ◌⊎◌, ℕ, length, get_or}
use Rattle.completions.specs.Either.{is_either, is_bit}

-- a byte that is a bit
abbrev pub Bit : ℕ → Type 0
Bit c = (c ≡ 48) ⊎ (c ≡ 49)

-- a byte that is a bit or `x`
abbrev pub Symbol : ℕ → Type 0
Symbol c = Bit c ⊎ (c ≡ 120)

-- the same as a test
abbrev pub is_symbol : ℕ → Bool
is_symbol c = is_bit c || is_either c

-- what stands in a completion for byte c, where an `x` has the bit b
abbrev pub completed : ℕ → Bool → ℕ
completed c b = cond (is_either c) (cond b 49 48) c

-- d may stand in a completion where c stands in the text
pub record Completed (c d : ℕ) : Type 0 where
  pub either : c ≡ 120 → Bit d
  pub other : (c ≡ 120 → ⊥) → d ≡ c

-- u is a completion of w
pub record Completes (w u : List ℕ) : Type 0 where
  pub size : length u ≡ length w
  pub at : (i : ℕ) → Completed (get_or w i 0) (get_or u i 0)

-- d is a bit where c is a bit or `x`, else the same byte
pub record Formed (c d : ℕ) : Type 0 where
  pub symbol : Symbol c → Bit d
  pub other : (Symbol c → ⊥) → d ≡ c

-- u has a bit wherever w has a bit or `x`, and is w elsewhere
pub record SameForm (w u : List ℕ) : Type 0 where
  pub size : length u ≡ length w
  pub at : (i : ℕ) → Formed (get_or w i 0) (get_or u i 0)
