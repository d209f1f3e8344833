-- Circuits of cones, computed. Assumes nothing.
use mathlib.Core.Path.{◌≡◌, refl}
use mathlib.Core.List.{[], ◌∷◌}
use Rattle.cone.specs.Cone.{operand_of, marked, in_cone, kept_before, number, renumbered, kept_gate, kept_gates, folded}

-- `aag 4 3 0 1 1 0 0`, with gate `8 4 2` as its output
one-gate :
    folded 3 (record { left = 4; right = 2 } ∷ []) 8
    ≡ record {
      max_var = 4;
      inputs = 2 ∷ 4 ∷ 6 ∷ [];
      latches = [];
      outputs = 8 ∷ [];
      bads = [];
      constraints = [];
      gates = record { lit = 8; left = 4; right = 2 } ∷ [];
    }
unfolding operand_of marked in_cone kept_before number renumbered kept_gate kept_gates folded
one-gate = refl

-- the first gate is outside the cone, so the second has its number
gate-outside :
    folded 2 (record { left = 4; right = 2 } ∷ record { left = 5; right = 2 } ∷ []) 9
    ≡ record {
      max_var = 3;
      inputs = 2 ∷ 4 ∷ [];
      latches = [];
      outputs = 7 ∷ [];
      bads = [];
      constraints = [];
      gates = record { lit = 6; left = 5; right = 2 } ∷ [];
    }
unfolding operand_of marked in_cone kept_before number renumbered kept_gate kept_gates folded
gate-outside = refl
