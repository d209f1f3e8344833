-- Places of a support and sequences. Word 10 of a node's record is not 0 where the node leads to the root; free bit j is node j + 1.
-- Assumes nothing.
use Rattle.std.specs.Prelude.{◌≡◌, Bool, cond, List, ℕ, zero, suc, ◌+◌, ◌-◌, ◌*◌, ◌≤◌, ◌<◌, get_or}
use Rattle.aiger.specs.Bits.{nonzero}
use Rattle.aiger.specs.Frames.{free_bit}
use Rattle.nodes.specs.Store.{field}
use Rattle.support.specs.Counting.{spread}

-- how many places lie before the sequence of bits f 0, f 1, .. of which n are given and those at nodes in s count
unfoldable pub before : (ℕ → Bool) → (ℕ → Bool) → ℕ → ℕ
before s f zero = 0
before s f (suc n) = cond (s (suc n)) (2 * before s f n + cond (f n) 1 0) (before s f n)

-- whether node v is marked
abbrev pub marked : List ℕ → ℕ → Bool
marked work v = nonzero (field work v 10)

-- how many places lie before the sequence in these bits, by the marks
abbrev pub place_of : List ℕ → List ℕ → ℕ → ℕ
place_of work bits n = before (marked work) (λ j. nonzero (get_or bits j 0)) n

-- the first n words are those of `from`; the others are as before
pub record Copied (from : List ℕ) (n : ℕ) (before after : List ℕ) : Type 0 where
  pub new : (j : ℕ) → j < n → get_or after j 0 ≡ get_or from j 0
  pub others : (j : ℕ) → n ≤ j → get_or after j 0 ≡ get_or before j 0

-- the first n words are the bits of the sequence at place y, by the marks; the others are as before
pub record Spread (work : List ℕ) (y n : ℕ) (before after : List ℕ) : Type 0 where
  pub new : (j : ℕ) → j < n → get_or after j 0 ≡ cond (free_bit n (spread (λ i. marked work (n - i)) n y) j) 1 0
  pub others : (j : ℕ) → n ≤ j → get_or after j 0 ≡ get_or before j 0
