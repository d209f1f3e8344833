-- Reasons as clauses, as functions of the words. Assumes nothing.
use Rattle.std.specs.Prelude.{Bool, cond, List, ℕ, ◌+◌, ◌-◌, ◌*◌, ◌/◌, ◌%◌, eqb, ltb}
use Rattle.memory.specs.Record.{field, fixed, head, literal, opposite}
use Rattle.memory.specs.declared.Netlist.{Netlist}
use Rattle.memory.specs.declared.Arena.{Arena}

-- literal l is noted to be false in every hit
unfoldable pub is_false : List ℕ → ℕ → ℕ → Bool
is_false w nodes l = eqb (fixed (field w nodes (l / 2) 2)) (2 - l % 2)

unfoldable pub is_reason : Netlist → Arena → ℕ → Bool
is_reason net arena r = cond (eqb (r % 4) 3) (ltb (r / 4) arena.count) (ltb (r / 4) net.nodes)

-- how many literals kept clause c has, and the literal at place i
abbrev pub kept_length : List ℕ → Netlist → ℕ → ℕ
kept_length w net c = head w net.words c 1 % 1048576

abbrev pub kept_literal : List ℕ → Netlist → ℕ → ℕ → ℕ
kept_literal w net c i = literal w net.nodes (head w net.words c 0) i

-- gate g is false or its operand k is true
unfoldable pub below_literal : List ℕ → ℕ → ℕ → ℕ → ℕ → ℕ
below_literal w nodes g k i = cond (eqb i 0) (2 * g + 1) (field w nodes g k)

-- gate g is true or one of its operands is false
unfoldable pub above_literal : List ℕ → ℕ → ℕ → ℕ → ℕ
above_literal w nodes g i = cond (eqb i 0) (2 * g) (cond (eqb i 1) (opposite (field w nodes g 0)) (opposite (field w nodes g 1)))

-- how many literals reason r has, and the literal at place i
unfoldable pub length_of : List ℕ → Netlist → ℕ → ℕ
length_of w net r = cond (eqb (r % 4) 3) (kept_length w net (r / 4)) (cond (eqb (r % 4) 2) 3 2)

unfoldable pub literal_of : List ℕ → Netlist → ℕ → ℕ → ℕ
literal_of w net r i =
    cond (eqb (r % 4) 3) (kept_literal w net (r / 4) i)
    (cond (eqb (r % 4) 2) (above_literal w net.nodes (r / 4) i) (below_literal w net.nodes (r / 4) (r % 4) i))
