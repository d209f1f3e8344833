-- What the writers write, and what they require. Assumes nothing.
use Rattle.std.specs.Prelude.{◌≡◌, Bool, List, map, ◌++◌, ℕ, ◌+◌, ◌≤◌, ◌<◌, length, get_or}
use Rattle.aiger.specs.Lists.{upto}
use Rattle.aiger.specs.Bits.{nonzero}
use Rattle.aiger.specs.Text.{bytes, digits}
use Rattle.aiger.specs.Circuit.{Circuit}
use Rattle.aiger.specs.Frames.{free_starts, free_bits, free_bit}
use Rattle.aiger.specs.Witness.{witness_length}
use Rattle.aiger.specs.Memory.{Holds}
use Rattle.layout.specs.Words.{circuit_in}
use Rattle.layout.specs.Layout.{LayoutOf}
use Rattle.layout.specs.declared.Layout.{Layout}

-- word j of free, as a bit
abbrev pub free_at : List ℕ → ℕ → Bool
free_at free j = nonzero (get_or free j 0)

-- count bits, from the one at `at` on
abbrev pub row_of : List ℕ → ℕ → ℕ → List Bool
row_of free at count = map (λ i. free_at free (at + i)) (upto count)

-- the lines `1` and `b` with b
unfoldable pub heading_text : ℕ → List ℕ
heading_text b = bytes "1\nb" ++ digits b ++ bytes "\n"

-- free has the free bits of sequence x of frame t
abbrev pub SequenceIn : List ℕ → Circuit → ℕ → ℕ → Type 0
SequenceIn free c t x = (j : ℕ) → j < free_bits c t → free_at free j ≡ free_bit (free_bits c t) x j

-- what writing the start values requires
pub record StartsFit (part m : List ℕ) (p : Layout) (free : List ℕ) : Type 0 where
  pub holds : Holds m (circuit_in m)
  pub layout : LayoutOf m p
  pub bits : free_starts (circuit_in m) ≤ length free
  pub room : length (circuit_in m).latches < length part

-- what writing a witness requires
pub record WitnessFits (out m : List ℕ) (p : Layout) (b t : ℕ) (free : List ℕ) : Type 0 where
  pub holds : Holds m (circuit_in m)
  pub layout : LayoutOf m p
  pub bad : b < length (circuit_in m).bads
  pub frame : t ≤ 255
  pub bits : free_bits (circuit_in m) t ≤ length free
  pub room : witness_length (circuit_in m) b t ≤ length out
