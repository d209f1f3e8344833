-- The table of a plan, step by step, and its room. Assumes nothing.
use mathlib.Core.Path.{◌≡◌, sym, ap, ◌∙◌}
use mathlib.Core.Bool.{true, false}
use mathlib.Core.List.{List}
use mathlib.Core.Option.{none, some}
use Prim.Native.Nat.{ℕ, ◌+◌, ◌-◌, ◌*◌, ◌^◌, ◌≤◌, ◌<◌}
use native.Mathlib.Omega.{arith}
use lib.ListN.{length, set, take, drop}
use Rattle.aiger.specs.Circuit.{Circuit}
use Rattle.layout.specs.Words.{word}
use Rattle.diagrams.specs.States.{State, outcome}
use Rattle.diagram_rows.specs.Rows.{plan_of}
use Rattle.diagram_rows.proofs.Follow.{part_length}
use Rattle.state_sets.specs.Shape.{row_at}
use Rattle.state_sets.specs.Sets.{Sets, Tried, tried, where_done, again}
use Rattle.state_sets.proofs.Room.{row_is, row-order}
use Rattle.set_stage.specs.Table.{RowsRoom, with_resets, rows_put}
use Rattle.set_attempt.specs.Attempt.{start_stored_in, start_put, rows_of, table_made}
use Rattle.set_table.specs.Room.{TableRoom}

-- ---- the edge of the start states

-- a row up to the last one begins inside the table
pub place-fits : (vars rows r words at : ℕ) → at ≡ row_at vars r → r ≤ rows → row_at vars rows < words → at < words
place-fits vars rows r words at e h l = omega (arith, row-order vars r rows h)

module _ (c : Circuit) (latches : List ℕ) (rows : ℕ) (table : List ℕ) (s : State) where
  pub start_none : (t : State) → outcome t none ≡ with_resets c 0 latches s 1
      → tried t table false ≡ start_put c latches rows (record { state = s; table = table })
  unfolding start_put
  start_none t h = ap (start_stored_in (row_at (length latches) rows) table) h

  pub start-edge : (at : ℕ) → at ≡ row_at (length latches) rows → (t : State) (e : ℕ) → outcome t (some e) ≡ with_resets c 0 latches s 1
      → tried t (set table at e) true ≡ start_put c latches rows (record { state = s; table = table })
  unfolding start_put
  start-edge at q t e h =
      ap (λ (k : ℕ). tried t (set table k e) true) q ∙ ap (start_stored_in (row_at (length latches) rows) table) h

-- ---- all of the table

module _ (c : Circuit) (b : ℕ) (plan : List ℕ) (z : Sets) (rows : ℕ) (js : List ℕ) (er : rows ≡ rows_of plan) (ej : js ≡ (plan_of plan).latches) where
  made-from : (t : Tried) → t ≡ where_done (again (start_put c js rows) z) (rows_put c b plan rows) → t ≡ table_made c b plan z
  unfolding table_made
  made-from t h = h ∙ (λ i. where_done (again (start_put c (ej i) (er i)) z) (rows_put c b plan (er i)))

  pub made-stop : (y : Sets) → record { sets = y; done = false } ≡ again (start_put c js rows) z → record { sets = y; done = false } ≡ table_made c b plan z
  made-stop y h = made-from (record { sets = y; done = false }) (ap (λ (t : Tried). where_done t (rows_put c b plan rows)) h)

  pub made_all : (y : Sets) (t : Tried) → record { sets = y; done = true } ≡ again (start_put c js rows) z → t ≡ rows_put c b plan rows y
      → t ≡ table_made c b plan z
  made_all y t h q = made-from t (q ∙ ap (λ (t : Tried). where_done t (rows_put c b plan rows)) h)

-- ---- room

module _ (plan : List ℕ) (words : ℕ) (h : TableRoom plan words) where
  pub latches-there : length (plan_of plan).latches ≡ word plan 0
  latches-there = part_length plan 3 (word plan 0) (omega (arith, h.whole))

  pub rows_are : (rows : ℕ) → rows ≡ 2 ^ word plan 1 → rows ≡ rows_of plan
  rows_are rows e =
      e ∙ ap (λ (n : ℕ). 2 ^ n) (sym (part_length plan (3 + word plan 0) (word plan 1) (omega (arith, h.whole))))

  -- the latches of a plan as a part of its words
  module _ (end : ℕ) (e : end ≡ 3 + word plan 0) where
    pub latches-are : take (end - 3) (drop 3 plan) ≡ (plan_of plan).latches
    latches-are = let k : end - 3 ≡ word plan 0 = omega arith in ap (λ (n : ℕ). take n (drop 3 plan)) k

  module _ (rows : ℕ) (e : rows ≡ 2 ^ word plan 1) where
    room_at : row_at (word plan 0) rows < words
    room_at =
        let k : rows * (word plan 0 + 2) ≡ 2 ^ word plan 1 * (word plan 0 + 2) = ap (λ (n : ℕ). n * (word plan 0 + 2)) e in
        omega (arith, row_is (word plan 0) rows, h.room)

    pub start-room : (js : List ℕ) → js ≡ (plan_of plan).latches → (length js ≤ 256) × (row_at (length js) rows < words)
    start-room js q =
        let k : length js ≡ word plan 0 = ap length q ∙ latches-there in
        (omega (arith, h.vars), rw k room_at)

    pub rows-room : rows ≤ 16 → RowsRoom plan rows words
    rows-room l =
        record {
          counted = omega (arith, h.whole);
          vars = h.vars;
          rows = l;
          room = omega (arith, room_at);
        }
