-- The sections of a file in binary form as texts of words: literals that stand in circuit memory, under the numbers of a table. Assumes
-- nothing.
use Rattle.std.specs.Prelude.{◌≡◌, cond, List, [], ◌∷◌, ◌++◌, ℕ, zero, suc, ◌+◌, ◌*◌, ◌≤◌, ◌<◌, eqb, length}
use Rattle.aiger.specs.Circuit.{Gate}
use Rattle.aiger.specs.Write.{line_of}
use Rattle.layout.specs.Words.{word}
use Rattle.renumber.specs.Names.{Within, under}
use Rattle.renumbered.specs.Renumbered.{sorted, gate_text}

-- the line of a latch
abbrev pub latch_line : ℕ → ℕ → List ℕ
latch_line next reset = line_of next (cond (eqb reset 0) [] (reset ∷ []))

-- the lines of n latches, three words each from position p on
unfoldable pub latch_lines : List ℕ → List ℕ → ℕ → ℕ → List ℕ
latch_lines names m p zero = []
latch_lines names m p (suc n) = latch_line (under names (word m (p + 1))) (under names (word m (p + 2))) ++ latch_lines names m (p + 3) n

-- the lines of n literals from position p on
unfoldable pub literal_lines : List ℕ → List ℕ → ℕ → ℕ → List ℕ
literal_lines names m p zero = []
literal_lines names m p (suc n) = line_of (under names (word m p)) [] ++ literal_lines names m (p + 1) n

-- the gate whose words stand at p
abbrev pub gate_under_at : List ℕ → List ℕ → ℕ → Gate
gate_under_at names m p = record { lit = under names (word m p); left = under names (word m (p + 1)); right = under names (word m (p + 2)) }

-- the differences of n gates in an order that is listed from place j on, where gate i stands at first + 3i
unfoldable pub gate_bytes : List ℕ → List ℕ → ℕ → List ℕ → ℕ → ℕ → List ℕ
gate_bytes names m first order j zero = []
gate_bytes names m first order j (suc n) =
    gate_text (sorted (gate_under_at names m (first + 3 * word order j))) ++ gate_bytes names m first order (j + 1) n

-- the words of the gates are in the memory, each place of the order is one of them, and its operands are below it
pub record Listed (names m : List ℕ) (first count : ℕ) (order : List ℕ) : Type 0 where
  pub inside : first + 3 * count ≤ length m
  pub within : Within m first (3 * count) names
  pub room : count ≤ length order
  pub places : (j : ℕ) → j < count → word order j < count
  pub left : (j : ℕ) → j < count → under names (word m (first + 3 * word order j + 1)) < under names (word m (first + 3 * word order j))
  pub right : (j : ℕ) → j < count → under names (word m (first + 3 * word order j + 2)) < under names (word m (first + 3 * word order j))
