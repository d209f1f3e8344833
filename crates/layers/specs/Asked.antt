-- What is asked of a layer. Assumes nothing.
use Rattle.std.specs.Prelude.{◌≡◌, List, ℕ, suc, ◌+◌, ◌-◌, ◌*◌, ◌^◌, ◌≤◌, ◌<◌, length}
use Rattle.std.proofs.Math.Option.{none, some}
use Rattle.machine.specs.Machine.{Machine}
use Rattle.machine.specs.Layers.{Entry, place_of, slot_hit, slot_place, expanded, layer_slots, least_below}
use Rattle.states.specs.declared.Table.{Table}
use Rattle.states.specs.Trace.{Trace, Holds}
use Rattle.influence.specs.Part.{Part}
use Rattle.transitions.specs.Transitions.{machine_of}
use Rattle.layers.specs.declared.Asked.{Asked}
use Rattle.layers.specs.declared.Asked.TheVariants.{Hit, Next, Full}

-- the first hit of the layer is row `row` of record e, whose prefix can be traced; or there is none, and the next layer is met, or too
-- many states are
unfoldable pub AskedOf : Part → ℕ → ℕ → ℕ → Table → ℕ → List ℕ → List Entry → Asked → Type 0
AskedOf c b t lo p quota records es (Hit e row) =
    (z : ℕ) × (least_below (layer_slots (machine_of c b) es lo) (slot_hit (machine_of c b) es lo) ≡ some z)
    × (y : ℕ) × Trace (2 ^ length c.circuit.inputs) p.width records t e y × (row < 2 ^ length c.circuit.inputs)
    × (slot_place (machine_of c b) es lo z ≡ y * 2 ^ length c.circuit.inputs + row) × (e < length es)
AskedOf c b t lo p quota records es (Next count) =
    (least_below (layer_slots (machine_of c b) es lo) (slot_hit (machine_of c b) es lo) ≡ none)
    × Holds (2 ^ length c.circuit.inputs) (suc t) (length es) p quota count records
    (expanded (machine_of c b) es lo (layer_slots (machine_of c b) es lo))
    × (count ≤ quota)
AskedOf c b t lo p quota records es Full =
    (least_below (layer_slots (machine_of c b) es lo) (slot_hit (machine_of c b) es lo) ≡ none)
    × Holds (2 ^ length c.circuit.inputs) (suc t) (length es) p quota (quota + 1) records
    (expanded (machine_of c b) es lo (layer_slots (machine_of c b) es lo))
