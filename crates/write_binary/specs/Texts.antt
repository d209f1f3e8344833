-- The header of a file in binary form by the layout of a circuit, and a circuit whose variables are numbered. Assumes nothing.
use Rattle.std.specs.Prelude.{◌≡◌, List, [], ◌∷◌, ◌++◌, ℕ, ◌+◌, ◌≤◌, length}
use Rattle.aiger.specs.Text.{bytes}
use Rattle.aiger.specs.Memory.{Holds}
use Rattle.aiger.specs.Operations.{front}
use Rattle.aiger.specs.Write.{line_of}
use Rattle.layout.specs.Words.{circuit_in}
use Rattle.layout.specs.Layout.{LayoutOf}
use Rattle.layout.specs.declared.Layout.{Layout}
use Rattle.circuit_numbers.specs.Numbers.{AllNumbered}

-- seven numbers, M first, which is I + L + A
abbrev pub head_text : Layout → List ℕ
head_text p = bytes "aig " ++ line_of (p.i + p.l + p.a) (p.i ∷ p.l ∷ p.o ∷ p.a ∷ p.b ∷ p.c ∷ [])

-- the counts are within load's limits
pub record Small (p : Layout) : Type 0 where
  pub definitions : p.i + p.l + p.a ≤ 4096
  pub outputs : p.o ≤ 64
  pub bads : p.b ≤ 16
  pub constraints : p.c ≤ 16

-- the circuit in m, its layout, the numbers of its variables and the order of its gates
pub record Ready (m : List ℕ) (p : Layout) (names order : List ℕ) : Type 0 where
  pub held : Holds m (circuit_in m)
  pub layout_of : LayoutOf m p
  pub size : length names ≡ 4097
  pub before : List ℕ
  pub room : 3072 ≤ length before
  pub numbered : AllNumbered (circuit_in m) before names order
