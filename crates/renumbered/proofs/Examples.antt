-- A worked example of a renumbered circuit and its text, number by number. Clause 12.1. Assumes nothing.
use mathlib.Core.Path.{◌≡◌, refl}
use mathlib.Core.List.{[], ◌∷◌, ◌++◌}
use Prim.Native.Nat.{ℕ}
use Rattle.aiger.specs.Text.{bytes, digits_up_to}
use Rattle.aiger.specs.Circuit.{Circuit}
use Rattle.aiger.specs.Binary.{grouped}
use Rattle.aiger.specs.Search.{least_below}
use Rattle.aiger.specs.Write.{line_of, lines_of}
use Rattle.gate_order.specs.Order.{given, taken}
use Rattle.renumbered.specs.Renumbered.{operand_vars, numbering, renumbered, latch_tail, gates_text, binary_text, write_binary}

-- inputs in another order than their numbers, a latch with a free start and one that starts at 1, variables that nothing defines, and a
-- gate that is listed before its operand
abbrev example : Circuit
example =
    record {
      max_var = 99;
      inputs = 6 ∷ 2 ∷ [];
      latches =
          record { lit = 8; next = 10; reset = 8 } ∷ record { lit = 198; next = 0; reset = 1 }
          ∷ record { lit = 14; next = 7; reset = 0 } ∷ [];
      outputs = 13 ∷ [];
      bads = 12 ∷ [];
      constraints = 6 ∷ [];
      gates =
          record { lit = 12; left = 3; right = 10 } ∷ record { lit = 10; left = 2; right = 9 }
          ∷ record { lit = 22; left = 1; right = 198 } ∷ [];
    }

-- variables 3 and 1 become 1 and 2; 4, 99 and 7 become 3, 4 and 5; then gates 5, 6 and 11 become 6, 7 and 8
pub example-renumbered : renumbered example
    ≡ record {
      max_var = 8;
      inputs = 2 ∷ 4 ∷ [];
      latches =
          record { lit = 6; next = 12; reset = 6 } ∷ record { lit = 8; next = 0; reset = 1 }
          ∷ record { lit = 10; next = 3; reset = 0 } ∷ [];
      outputs = 15 ∷ [];
      bads = 14 ∷ [];
      constraints = 2 ∷ [];
      gates =
          record { lit = 12; left = 7; right = 4 } ∷ record { lit = 14; left = 12; right = 5 }
          ∷ record { lit = 16; left = 8; right = 1 } ∷ [];
    }
unfolding given least_below taken operand_vars numbering renumbered
example-renumbered = refl

-- its text: the numbers of the lines, then for each gate two differences
pub example-text : write_binary example ≡ bytes "aig 8 2 3 1 3 1 1\n12 6\n0 1\n3\n15\n14\n2\n" ++ (5 ∷ 3 ∷ 2 ∷ 7 ∷ 8 ∷ 7 ∷ [])
unfolding given least_below taken operand_vars numbering renumbered latch_tail gates_text binary_text grouped digits_up_to line_of lines_of
example-text = refl
