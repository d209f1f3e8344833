-- What is read of the gates of a circuit in memory, and what is left of its numbering. Assumes nothing.
use Rattle.std.specs.Prelude.{◌≡◌, List, ℕ, ◌+◌, ◌*◌, ◌<◌}
use Rattle.aiger.specs.Circuit.{Circuit, var}
use Rattle.aiger.specs.Operations.{front}
use Rattle.layout.specs.Words.{word}
use Rattle.renumbered.specs.Renumbered.{numbering}

-- the variables of n gates, three words each from `first` on, and those of their operands
pub record Read (m : List ℕ) (first n : ℕ) (vars ops : List ℕ) : Type 0 where
  pub own : (i : ℕ) → i < n → word vars i ≡ var (word m (first + 3 * i))
  pub left : (i : ℕ) → i < n → word ops (2 * i) ≡ var (word m (first + 3 * i + 1))
  pub right : (i : ℕ) → i < n → word ops (2 * i + 1) ≡ var (word m (first + 3 * i + 2))

-- the numbers of all variables, and the order of the gates at the front of what was lent for it
pub record AllNumbered (c : Circuit) (order names order' : List ℕ) : Type 0 where
  pub numbers : names ≡ (numbering c).1
  pub listed : order' ≡ front (numbering c).0 order
