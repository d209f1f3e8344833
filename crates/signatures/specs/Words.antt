-- Words of 64 bits in the records of nodes, and which words of a record are changed. Assumes nothing.
use Rattle.std.specs.Prelude.{◌≡◌, Bool, false, ◌||◌, List, ℕ, ◌+◌, ◌*◌, ◌^◌, ◌<◌, eqb, get_or}
use Rattle.nodes.specs.Store.{field}

-- the word whose low half is word f of record k, and whose high half is word f + 1
unfoldable pub word_at : List ℕ → ℕ → ℕ → ℕ
word_at work k f = field work k f + field work k (f + 1) * 2 ^ 32

-- w was stored in words f and f + 1 of record k
pub record Put (work last : List ℕ) (k f w : ℕ) : Type 0 where
  pub stored : word_at last k f ≡ w
  pub others : (i : ℕ) → (i ≡ 16 * k + f → ⊥) → (i ≡ 16 * k + (f + 1) → ⊥) → get_or last i 0 ≡ get_or work i 0

-- of each record only the words that the test names were changed
abbrev pub Kept : (ℕ → Bool) → List ℕ → List ℕ → Type 0
Kept changed work last = (k f : ℕ) → f < 16 → changed f ≡ false → field last k f ≡ field work k f

-- the words of a simulation
abbrev pub simulation_word : ℕ → Bool
simulation_word f = eqb f 8 || eqb f 9

-- a candidate, and the words of a simulation
abbrev pub search_word : ℕ → Bool
search_word f = eqb f 11 || simulation_word f

-- a signature, the node before it in its bucket, and the bucket's last node
abbrev pub signature_word : ℕ → Bool
signature_word f = eqb f 2 || (eqb f 3 || (eqb f 5 || eqb f 7))
