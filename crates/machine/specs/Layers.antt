-- The search by layers of states. Layer 0 has the start states in their order; layer t + 1 has, for each state of layer t in order and
-- each row in order, the next state, if it was met before in no layer. Assumes nothing.
use Rattle.std.specs.Prelude.{Bool, false, cond, ◌||◌, List, [], ◌∷◌, ◌++◌, ℕ, zero, suc, ◌+◌, ◌-◌, ◌*◌, ◌/◌, ◌%◌, eqb, leb, length, get_or}
use Rattle.std.proofs.Math.Option.{Option, none, some}
use Rattle.machine.specs.Machine.{Machine}
pub use Rattle.aiger.specs.Search.{least_below}

-- a state that was met, and the first prefix that led to it
pub record Entry : Type 0 where
  pub state : ℕ
  pub place : ℕ

abbrev pub no_entry : Entry
no_entry = record { state = 0; place = 0 }

abbrev pub state_of : List Entry → ℕ → ℕ
state_of es i = (get_or es i no_entry).state

abbrev pub place_of : List Entry → ℕ → ℕ
place_of es i = (get_or es i no_entry).place

-- whether a state was met
unfoldable pub met : ℕ → List Entry → Bool
met s [] = false
met s (e ∷ es) = eqb e.state s || met s es

-- a state, if there is one, joins those that were met
unfoldable pub meet : Option ℕ → ℕ → List Entry → List Entry
meet none y es = es
meet (some s) y es = cond (met s es) es (es ++ (record { state = s; place = y } ∷ []))

-- the start states of the places below n
unfoldable pub started : Machine → ℕ → List Entry
started m zero = []
started m (suc n) = meet (some (m.start n)) n (started m n)

-- Slot z of a layer that begins at entry lo: its state, its row, and the prefix that they are.
abbrev pub slot_entry : Machine → List Entry → ℕ → ℕ → Entry
slot_entry m es lo z = get_or es (lo + z / m.slots) no_entry

abbrev pub slot_place : Machine → List Entry → ℕ → ℕ → ℕ
slot_place m es lo z = (slot_entry m es lo z).place * m.rows + z % m.slots

abbrev pub slot_step : Machine → List Entry → ℕ → ℕ → Option ℕ
slot_step m es lo z = m.step (slot_entry m es lo z).state (z % m.slots)

abbrev pub slot_hit : Machine → List Entry → ℕ → ℕ → Bool
slot_hit m es lo z = m.hit (slot_entry m es lo z).state (z % m.slots)

-- the entries es, and the next states of the first z slots of the layer that begins at entry lo
unfoldable pub expanded : Machine → List Entry → ℕ → ℕ → List Entry
expanded m es lo zero = es
expanded m es lo (suc z) = meet (slot_step m es lo z) (slot_place m es lo z) (expanded m es lo z)

-- the number of slots of the layer that begins at entry lo
abbrev pub layer_slots : Machine → List Entry → ℕ → ℕ
layer_slots m es lo = (length es - lo) * m.slots

-- what the layers say: frame t is the first with a hit, and its first one is x; no frame that was asked has a hit; no frame at all has one,
-- however late, where the layer of frame t led to no new state; or the search was given up, where no frame before t has a hit
pub data Layered : Type 0 where
  hit : ℕ → ℕ → Layered
  clear : Layered
  never : ℕ → Layered
  gave_up : ℕ → Layered

-- Frames t to t + n - 1, where es are the states met and the layer of frame t begins at entry lo. The search is given up at frame t + 1
-- where more than quota t states are met by then; a layer that leads to no new state ends it.
unfoldable pub layers_from : Machine → (ℕ → ℕ) → ℕ → ℕ → List Entry → ℕ → Layered
layers_from m quota zero t es lo = clear
layers_from m quota (suc n) t es lo =
    elim (least_below (layer_slots m es lo) (slot_hit m es lo)) [
      | some z ↦ hit t (slot_place m es lo z)
      | none ↦
          cond (leb (length (expanded m es lo (layer_slots m es lo))) (quota t))
          (cond (eqb (length (expanded m es lo (layer_slots m es lo))) (length es)) (never t)
          (layers_from m quota n (suc t) (expanded m es lo (layer_slots m es lo)) (length es)))
          (gave_up (suc t))
    ]

-- frames 0 to n - 1
unfoldable pub layered : Machine → (ℕ → ℕ) → ℕ → Layered
layered m quota n = cond (leb (length (started m m.starts)) (quota 0)) (layers_from m quota n 0 (started m m.starts) 0) (gave_up 0)
