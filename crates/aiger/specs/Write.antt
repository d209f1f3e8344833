-- The text that write gives for a circuit. Assumes nothing.
use Rattle.std.specs.Prelude.{Bool, cond, List, [], ◌∷◌, ◌++◌, map, ℕ, eqb, length}
use Rattle.aiger.specs.Text.{bytes, digits}
use Rattle.aiger.specs.Circuit.{Circuit, Latch, Gate}

-- a line of numbers, n first, one space between two
unfoldable pub line_of : ℕ → List ℕ → List ℕ
line_of n [] = digits n ++ bytes "\n"
line_of n (m ∷ ns) = digits n ++ bytes " " ++ line_of m ns

unfoldable pub lines_of : List (List ℕ) → List ℕ
lines_of [] = []
lines_of ([] ∷ ls) = lines_of ls
lines_of ((n ∷ ns) ∷ ls) = line_of n ns ++ lines_of ls

abbrev pub literal_row : ℕ → List ℕ
literal_row l = l ∷ []

-- Clause 7.1: a reset is written where it is not 0
unfoldable pub latch_row : Latch → List ℕ
latch_row l = l.lit ∷ l.next ∷ cond (eqb l.reset 0) [] (l.reset ∷ [])

abbrev pub gate_row : Gate → List ℕ
gate_row g = g.lit ∷ g.left ∷ g.right ∷ []

-- the header's numbers after M
abbrev pub count_row : Circuit → List ℕ
count_row c =
    length c.inputs ∷ length c.latches ∷ length c.outputs ∷ length c.gates ∷ length c.bads ∷ length c.constraints ∷ []

-- Clause 7.1: seven header numbers, the sections in their order, no tail
unfoldable pub write : Circuit → List ℕ
write c =
    bytes "aag " ++ line_of c.max_var (count_row c)
    ++ lines_of (map literal_row c.inputs) ++ lines_of (map latch_row c.latches) ++ lines_of (map literal_row c.outputs)
    ++ lines_of (map literal_row c.bads) ++ lines_of (map literal_row c.constraints) ++ lines_of (map gate_row c.gates)
