-- The sections of a circuit as a table, in the order of text form and of circuit memory. Assumes nothing.
use Rattle.std.specs.Prelude.{◌≡◌, List, [], ◌∷◌, ℕ, ◌+◌, ◌*◌, get_or}
use Rattle.layout.specs.declared.Layout.{Layout}
use Rattle.layout.specs.declared.Section.{Section}

-- a section
abbrev row : ℕ → ℕ → ℕ → ℕ → Section
row at rows least most = record { at = at; rows = rows; least = least; most = most }

-- inputs, latches, outputs, bad lines, constraints and gates, in the order of file and memory
abbrev pub table : Layout → List Section
table p =
    row 7 p.i 1 1
    ∷ row p.latches p.l 2 3
    ∷ row p.outputs p.o 1 1
    ∷ row p.bads p.b 1 1
    ∷ row p.constraints p.c 1 1
    ∷ row p.gates p.a 3 3
    ∷ []

-- section k
abbrev pub section_at : Layout → ℕ → Section
section_at p k = get_or (table p) k (row 0 0 0 0)

-- the first section begins at `start`, each other where the one before it ends, and the last one ends at `end`
abbrev pub Chained : List Section → ℕ → ℕ → Type 0
Chained [] start end = start ≡ end
Chained (t ∷ ts) start end = (t.at ≡ start) × Chained ts (start + t.rows * t.most) end
