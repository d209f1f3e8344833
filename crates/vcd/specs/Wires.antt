-- Clause 13.1: the wires of a circuit: inputs, latches, outputs, bad lines and constraints, each kind in file order. Assumes nothing.
use Rattle.std.specs.Prelude.{List, map, ◌++◌, ℕ, ◌+◌, ◌≤◌, ◌<◌, length, get_or}
use Rattle.aiger.specs.Lists.{upto}
use Rattle.aiger.specs.Circuit.{Circuit}
use Rattle.layout.specs.declared.Layout.{Layout}
use Rattle.vcd.specs.declared.Name.{Name}

abbrev pub name_of : ℕ → ℕ → Name
name_of kind index = record { kind = kind; index = index }

-- the names of n wires of one kind
abbrev pub section : ℕ → ℕ → List Name
section kind n = map (name_of kind) (upto n)

-- the names of all wires, by how many there are of each kind
unfoldable pub names : ℕ → ℕ → ℕ → ℕ → ℕ → List Name
names i l o b c = section 105 i ++ (section 108 l ++ (section 111 o ++ (section 98 b ++ section 99 c)))

-- the literals of all wires
unfoldable pub literals : Circuit → List ℕ
literals c = c.inputs ++ (map (λ l. l.lit) c.latches ++ (c.outputs ++ (c.bads ++ c.constraints)))

-- name and literal of wire k
abbrev pub name_at : Circuit → ℕ → Name
name_at c k =
    get_or (names (length c.inputs) (length c.latches) (length c.outputs) (length c.bads) (length c.constraints)) k
    (name_of 0 0)

abbrev pub literal_at : Circuit → ℕ → ℕ
literal_at c k = get_or (literals c) k 0

-- the same by the counts of a layout
abbrev pub name_in : Layout → ℕ → Name
name_in p k = get_or (names p.i p.l p.o p.b p.c) k (name_of 0 0)

abbrev pub wires_in : Layout → ℕ
wires_in p = p.i + p.l + p.o + p.b + p.c

-- there are at least n wires, and no more than the limits allow
pub record FewWires (p : Layout) (n : ℕ) : Type 0 where
  pub there : n ≤ wires_in p
  pub few : wires_in p ≤ 1376
