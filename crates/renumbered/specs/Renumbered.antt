-- Clause 12.1: the circuit under the numbers of the binary form, its text, and what the binary writer answers. Assumes nothing.
use Rattle.std.specs.Prelude.{◌≡◌, Bool, cond, List, [], ◌∷◌, ◌++◌, map, ℕ, ◌+◌, ◌-◌, leb, ltb, eqb, length, get_or, replicate}
use Rattle.aiger.specs.Text.{bytes}
use Rattle.aiger.specs.Circuit.{Circuit, Latch, Gate, var}
use Rattle.aiger.specs.Binary.{difference_text}
use Rattle.aiger.specs.Load.{Answer}
use Rattle.aiger.specs.Write.{line_of, lines_of, literal_row, count_row}
use Rattle.aiger.specs.Operations.{front, need, Operated}
use Rattle.meaning.specs.Frame.{gate_at}
use Rattle.gate_order.specs.Order.{given, taken}
use Rattle.joined.specs.Joined.{literal_under, latch_under, gate_under}

-- the variables of the gates, and those of their operands, two for each gate
abbrev pub gate_vars : Circuit → List ℕ
gate_vars c = map (λ g. var g.lit) c.gates

unfoldable pub operand_vars : List Gate → List ℕ
operand_vars [] = []
operand_vars (g ∷ gs) = var g.left ∷ var g.right ∷ operand_vars gs

-- a table of numbers by variable: inputs have those from 1 on, latches the next ones, every other variable 0. No variable is above 4,096
abbrev pub leaf_numbers : Circuit → List ℕ
leaf_numbers c = given (length c.inputs + 1) (map (λ l. var l.lit) c.latches) (given 1 (map var c.inputs) (replicate 4097 0))

-- gates get the numbers after these, each time the earliest listed one whose operands have numbers: the gates in this order, each by its
-- place in the list, and the table of all numbers
unfoldable pub numbering : Circuit → List ℕ × List ℕ
numbering c =
    taken (length (gate_vars c)) (gate_vars c) (operand_vars c.gates) (length c.inputs + length c.latches + 1) (leaf_numbers c)

-- the number of a variable; that of the constant stays 0
abbrev pub new_number : Circuit → ℕ → ℕ
new_number c v = get_or (numbering c).1 v 0

-- the larger operand first
abbrev pub sorted : Gate → Gate
sorted g = cond (ltb g.left g.right) (record { lit = g.lit; left = g.right; right = g.left }) g

-- the circuit under the new numbers, with its gates in their new order and the larger operand of each first
unfoldable pub renumbered : Circuit → Circuit
renumbered c =
    let σ = new_number c in
    record {
      max_var = length c.inputs + length c.latches + length c.gates;
      inputs = map (literal_under σ) c.inputs;
      latches = map (latch_under σ) c.latches;
      outputs = map (literal_under σ) c.outputs;
      bads = map (literal_under σ) c.bads;
      constraints = map (literal_under σ) c.constraints;
      gates = map (λ i. sorted (gate_under σ (gate_at c i))) (numbering c).0;
    }

-- the line of a latch: its own literal is implied, and a reset is written where it is not 0
unfoldable pub latch_tail : Latch → List ℕ
latch_tail l = l.next ∷ cond (eqb l.reset 0) [] (l.reset ∷ [])

-- a gate: the difference from its literal to its first operand, and that from the first to the second
abbrev pub gate_text : Gate → List ℕ
gate_text g = difference_text (g.lit - g.left) ++ difference_text (g.left - g.right)

unfoldable pub gates_text : List Gate → List ℕ
gates_text [] = []
gates_text (g ∷ gs) = gate_text g ++ gates_text gs

-- the text of a circuit that has such numbers: seven header numbers, the sections in their order, no tail
unfoldable pub binary_text : Circuit → List ℕ
binary_text c =
    bytes "aig " ++ line_of c.max_var (count_row c)
    ++ lines_of (map latch_tail c.latches) ++ lines_of (map literal_row c.outputs) ++ lines_of (map literal_row c.bads)
    ++ lines_of (map literal_row c.constraints) ++ gates_text c.gates

-- the text that the binary writer gives for a circuit
abbrev pub write_binary : Circuit → List ℕ
write_binary c = binary_text (renumbered c)

-- Clauses 6.4, 6.5 and 12.1: the binary writer answers the length of the text, 9 or 13, and leaves the bytes past the text
pub record BinaryEffect (out : List ℕ) (c : Circuit) (n : ℕ) (left : List ℕ) : Type 0 where
  pub count : n ≡ length (write_binary c)
  pub shows : left ≡ front (write_binary c) out

abbrev pub WrittenBinary : List ℕ → List ℕ → Answer ℕ → List ℕ → Type 0
WrittenBinary m out a out' = Operated m (λ c. need 13 (leb (length (write_binary c)) (length out)) ∷ []) out (BinaryEffect out) a out'
