-- A circuit and the latches of it that are part of a state. Assumes nothing.
use Rattle.std.specs.Prelude.{◌≡◌, Bool, false, List, ℕ, ◌<◌, length, get_or}
use Rattle.aiger.specs.Circuit.{Circuit}
use Rattle.aiger.specs.Frames.{value, frame}
use Rattle.layout.specs.Words.{circuit_in}
use Rattle.meaning.specs.Frame.{latch_at}
use Rattle.frames.specs.Lanes.{constrained_in, bad_in}

-- the latches that are kept, by their places in the file
pub record Part : Type 0 where
  pub circuit : Circuit
  pub kept : List ℕ

-- the i-th of them
abbrev pub kept_at : Part → ℕ → ℕ
kept_at c i = get_or c.kept i 0

-- two lists of latches agree on those that are kept
abbrev pub Agree : Part → List Bool → List Bool → Type 0
Agree c st st' = (i : ℕ) → i < length c.kept → get_or st (kept_at c i) false ≡ get_or st' (kept_at c i) false

-- values with which the constraints, bad line b and the next literals of the latches that are kept are the same
pub record Same (c : Part) (b : ℕ) (w u : ℕ → Bool) : Type 0 where
  pub constrained : constrained_in c.circuit w ≡ constrained_in c.circuit u
  pub bad : bad_in c.circuit b w ≡ bad_in c.circuit b u
  pub next : (i : ℕ) → i < length c.kept
      → value w (latch_at c.circuit (kept_at c i)).next ≡ value u (latch_at c.circuit (kept_at c i)).next

-- The latches that are kept are latches, in the order of the file.
pub record Listed (c : Part) : Type 0 where
  pub inside : (i : ℕ) → i < length c.kept → kept_at c i < length c.circuit.latches
  pub rising : (i j : ℕ) → i < j → j < length c.kept → kept_at c i < kept_at c j

-- Whether a frame breaks a constraint, hits, and what latches that are kept it leads to, depends on the latches that are kept alone.
pub record Closed (c : Part) (b : ℕ) : Type 0 where
  pub listed : Listed c
  pub same :
      (st st' row : List Bool) → length st ≡ length c.circuit.latches → length st' ≡ length c.circuit.latches → Agree c st st'
      → Same c b (frame c.circuit st row) (frame c.circuit st' row)

-- the circuit in memory m and some of its latches
abbrev pub part_in : List ℕ → List ℕ → Part
part_in m ks = record { circuit = circuit_in m; kept = ks }
