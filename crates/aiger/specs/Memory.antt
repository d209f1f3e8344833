-- Circuit memory: the words that an accepted load leaves, and which circuit a memory holds. Assumes nothing.
use Rattle.std.specs.Prelude.{◌≡◌, List, [], ◌∷◌, ◌++◌, ℕ, ◌-◌, length, take, replicate}
use Rattle.aiger.specs.Circuit.{Circuit, Latch, Gate}
use Rattle.aiger.specs.Write.{count_row}
use Rattle.aiger.specs.Load.{gives, load, needed}

-- three words a latch
unfoldable pub latch_words : List Latch → List ℕ
latch_words [] = []
latch_words (l ∷ ls) = l.lit ∷ l.next ∷ l.reset ∷ latch_words ls

-- three words a gate
unfoldable pub gate_words : List Gate → List ℕ
gate_words [] = []
gate_words (g ∷ gs) = g.lit ∷ g.left ∷ g.right ∷ gate_words gs

-- M I L O A B C, then the numbers of the lines in file order
unfoldable pub content : Circuit → List ℕ
content c =
    (c.max_var ∷ count_row c)
    ++ c.inputs ++ latch_words c.latches ++ c.outputs ++ c.bads ++ c.constraints ++ gate_words c.gates

-- the needed words: the content, and zeros
unfoldable pub image : Circuit → List ℕ
image c = content c ++ replicate (needed c.max_var - length (content c)) 0

-- Clause 2.8: the needed words are those that an accepted load leaves
pub record Holds (m : List ℕ) (c : Circuit) : Type 0 where
  pub file : List ℕ
  pub accepted : load (length m) file ≡ gives c
  pub words : take (needed c.max_var) m ≡ image c
