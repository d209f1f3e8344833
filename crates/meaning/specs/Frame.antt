-- A circuit's definitions by position, and the equations of a frame. Assumes nothing.
use Rattle.std.specs.Prelude.{◌≡◌, Bool, false, ◌&&◌, List, ℕ, ◌<◌, length, get_or}
use Rattle.aiger.specs.Circuit.{Circuit, Latch, Gate, var}
use Rattle.aiger.specs.Frames.{value}

-- what stands past the end of the latches and of the gates
abbrev pub no_latch : Latch
no_latch = record { lit = 0; next = 0; reset = 0 }

abbrev pub no_gate : Gate
no_gate = record { lit = 0; left = 0; right = 0 }

-- the literal of the i-th input, the j-th latch and the i-th gate in file order
abbrev pub input_at : Circuit → ℕ → ℕ
input_at c i = get_or c.inputs i 0

abbrev pub latch_at : Circuit → ℕ → Latch
latch_at c j = get_or c.latches j no_latch

abbrev pub gate_at : Circuit → ℕ → Gate
gate_at c i = get_or c.gates i no_gate

-- the values w of the variables satisfy the equations of a frame with these inputs and latches
pub record Valuation (c : Circuit) (row st : List Bool) (w : ℕ → Bool) : Type 0 where
  pub constant : w 0 ≡ false
  pub input : (i : ℕ) → i < length c.inputs → w (var (input_at c i)) ≡ get_or row i false
  pub latch : (j : ℕ) → j < length c.latches → w (var (latch_at c j).lit) ≡ get_or st j false
  pub gate : (i : ℕ) → i < length c.gates → w (var (gate_at c i).lit) ≡ (value w (gate_at c i).left && value w (gate_at c i).right)
