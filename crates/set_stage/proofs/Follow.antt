-- The steps of the code, each taken by the definitions. Assumes nothing.
use mathlib.Core.Path.{◌≡◌, refl, sym, ap, ◌∙◌}
use mathlib.Core.Bool.{Bool, true, false}
use mathlib.Core.List.{List, ◌++◌}
use Prim.Native.Nat.{ℕ, ◌+◌, ◌*◌, ◌≤◌, ◌<◌}
use native.Mathlib.Omega.{arith}
use borrow.Rule.Slice.PartMut.{put_mid, mid_of, put_same}
use lib.ListN.{length, get_or, take, drop}
use lib.Seq.{drop-drop}
use Rattle.aiger.specs.Circuit.{Circuit}
use Rattle.diagrams.specs.States.{State, state_of}
use Rattle.diagram_rows.specs.Rows.{leaves, Written, row_in}
use Rattle.state_sets.specs.Shape.{row_at}
use Rattle.state_sets.specs.Sets.{Sets, tried, left, turns}
use Rattle.state_sets.proofs.Room.{row_is, row_small, row_inside}
use Rattle.set_stage.specs.Table.{RowRoom, RowsRoom, splice, row_stored_in, row_put, rows_put}

-- ---- room

pub room_of : (plan : List ℕ) (rows r words : ℕ) → r < rows → RowsRoom plan rows words → RowRoom plan r words
room_of plan rows r words l h =
    record {
      counted = h.counted;
      vars = h.vars;
      rows = omega (arith, h.rows);
      room = omega (arith, h.room, row_inside (get_or plan 0 0) r rows l);
    }

pub room_small : (plan : List ℕ) (r words : ℕ) → RowRoom plan r words → r * (get_or plan 0 0 + 2) ≤ 4128
room_small plan r words h = row_small (get_or plan 0 0) r h.vars h.rows

pub room_at : (plan : List ℕ) (r words : ℕ) → RowRoom plan r words → 258 + r * (get_or plan 0 0 + 2) + get_or plan 0 0 + 2 ≤ words
room_at plan r words h = omega (arith, h.room, row_is (get_or plan 0 0) r)

-- ---- a row in its place

mid-splice : (table ws : List ℕ) (at k : ℕ) → length ws ≡ k → put_mid at k table ws ≡ splice table at ws
unfolding splice
mid-splice table ws at k e =
    ap (λ (rest : List ℕ). take at table ++ (ws ++ rest)) (drop-drop k at table ∙ ap (λ (n : ℕ). drop (at + n) table) (sym e))

module _ (c : Circuit) (b : ℕ) (plan : List ℕ) (r : ℕ) (s : State) (table : List ℕ) (w after : List ℕ) (done : Bool) (at k : ℕ)
    (at-is : at ≡ row_at (get_or plan 0 0) r) (long : length after ≡ k) where
  pub row_put_lem : Written w (mid_of at k table) after done (row_in c b plan r s)
      → left w (put_mid at k table after) done ≡ row_put c b plan r (record { state = s; table = table })
  unfolding row_put
  row_put_lem h = go done h.left h.stays
    where
      go : (d : Bool) → leaves w after d ≡ row_in c b plan r s → (d ≡ false → after ≡ mid_of at k table)
          → left w (put_mid at k table after) d ≡ row_stored_in (get_or plan 0 0) r table (row_in c b plan r s)
      go true e stays =
          ap (λ (t : List ℕ). tried (state_of w) t true) (mid-splice table after at k long ∙ ap (λ (i : ℕ). splice table i after) at-is)
          ∙ ap (row_stored_in (get_or plan 0 0) r table) e
      go false e stays =
          ap (λ (t : List ℕ). tried (state_of w) t false) (ap (put_mid at k table) (stays refl) ∙ put_same at k table)
          ∙ ap (row_stored_in (get_or plan 0 0) r table) e

pub rows_all : (c : Circuit) (b : ℕ) (plan : List ℕ) (rows : ℕ) (z : Sets) (n : ℕ) → n ≡ rows → turns (row_put c b plan) n 0 z ≡ rows_put c b plan rows z
unfolding rows_put
rows_all c b plan rows z n e = ap (λ (k : ℕ). turns (row_put c b plan) k 0 z) e
