-- Which prefix led to a record: its row is the last one, and the record that it was met from has the prefix before that. Assumes nothing.
use Rattle.std.specs.Prelude.{◌≡◌, List, ℕ, zero, suc, ◌+◌, ◌*◌, ◌≤◌, ◌<◌, length}
use Rattle.machine.specs.Layers.{Entry, place_of}
use Rattle.states.specs.declared.Table.{Table}
use Rattle.states.specs.Table.{field, Stored}

-- record i of the layer of frame t was first met after prefix z
unfoldable pub Trace : ℕ → ℕ → List ℕ → ℕ → ℕ → ℕ → Type 0
Trace rows w records zero i z = z ≡ field w records i 3
Trace rows w records (suc t) i z =
    (field w records i 2 < i) × (field w records i 3 < rows)
    × ((y : ℕ) × Trace rows w records t (field w records i 2) y × (z ≡ y * rows + field w records i 3))

-- the records from lo on, below n, are of the layer of frame t, and their traces are the places of the entries
abbrev pub Placed : ℕ → ℕ → ℕ → ℕ → ℕ → List ℕ → List Entry → Type 0
Placed rows t lo n w records es = (i : ℕ) → lo ≤ i → i < n → Trace rows w records t i (place_of es i)

-- what the table holds while the layer of frame t, which begins at record lo, is met: count records, or, where count exceeds quota, no
-- longer all
pub record Holds (rows t lo : ℕ) (p : Table) (quota count : ℕ) (records : List ℕ) (es : List Entry) : Type 0 where
  pub quota-room : (p.width + 4) * quota ≤ length records
  pub quota-small : quota < 4294967295
  pub count_small : count ≤ quota + 1
  pub counted : count ≤ quota → length es ≡ count
  pub stored : count ≤ quota → Stored p records es
  pub placed : count ≤ quota → Placed rows t lo (length es) p.width records es
  pub lost : quota < count → quota < length es

-- row `row` of record parent, of the layer before, leads to prefix y; for a start place, row is y
unfoldable pub Leads : ℕ → ℕ → List ℕ → ℕ → ℕ → ℕ → ℕ → ℕ → Type 0
Leads rows w records zero count parent row y = y ≡ row
Leads rows w records (suc t) count parent row y =
    (parent < count) × (row < rows) × ((x : ℕ) × Trace rows w records t parent x × (y ≡ x * rows + row))
