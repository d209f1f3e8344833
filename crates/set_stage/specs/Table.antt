-- The table of a plan: the edge of the start states and the edges of the rows, one after the other. Assumes nothing.
use Rattle.std.specs.Prelude.{Bool, true, false, cond, List, [], ◌∷◌, ◌++◌, ℕ, ◌+◌, ◌≤◌, ◌<◌, eqb, length, get_or, set, take, drop}
use Rattle.std.proofs.Math.Option.{Option, none, some}
use Rattle.aiger.specs.Circuit.{Circuit}
use Rattle.aiger.specs.Frames.{is_free}
use Rattle.meaning.specs.Frame.{latch_at}
use Rattle.diagrams.specs.Words.{flip}
use Rattle.diagrams.specs.States.{State, Outcome, outcome, and_then, made}
use Rattle.conjunction.specs.Conjunction.{both}
use Rattle.diagram_rows.specs.Rows.{Filled, row_in}
use Rattle.state_sets.specs.Shape.{row_at}
use Rattle.state_sets.specs.Sets.{Sets, Tried, tried, turns}

-- a table with words in place of those from `at` on
unfoldable pub splice : List ℕ → ℕ → List ℕ → List ℕ
splice table at ws = take at table ++ (ws ++ drop (at + length ws) table)

-- the words of a row stand in their place, where there are some
abbrev pub row_stored : ℕ → ℕ → List ℕ → State → Option (List ℕ) → Tried
row_stored vars r table s none = tried s table false
row_stored vars r table s (some ws) = tried s (splice table (row_at vars r) ws) true

abbrev pub row_stored_in : ℕ → ℕ → List ℕ → Filled → Tried
row_stored_in vars r table o = row_stored vars r table o.state o.words

-- there is room for row r of a plan in a table of so many words: up to 256 variables and 16 rows
pub record RowRoom (plan : List ℕ) (r words : ℕ) : Type 0 where
  pub counted : 0 < length plan
  pub vars : get_or plan 0 0 ≤ 256
  pub rows : r ≤ 16
  pub room : row_at (get_or plan 0 0) r + get_or plan 0 0 + 2 ≤ words

-- there is room for the first rows of a plan in a table of so many words
pub record RowsRoom (plan : List ℕ) (n words : ℕ) : Type 0 where
  pub counted : 0 < length plan
  pub vars : get_or plan 0 0 ≤ 256
  pub rows : n ≤ 16
  pub room : row_at (get_or plan 0 0) n ≤ words

-- row r of a plan is put into the table
unfoldable pub row_put : Circuit → ℕ → List ℕ → ℕ → Sets → Tried
row_put c b plan r z = row_stored_in (get_or plan 0 0) r z.table (row_in c b plan r z.state)

-- all rows
unfoldable pub rows_put : Circuit → ℕ → List ℕ → ℕ → Sets → Tried
rows_put c b plan rows z = turns (row_put c b plan) rows 0 z

-- ---- the start states

-- a latch that starts with its reset has that value
unfoldable pub with_reset : Circuit → ℕ → ℕ → State → ℕ → Outcome
with_reset c v j s e =
    cond (is_free (latch_at c j)) (outcome s (some e))
    (and_then (made s v 0 1) (λ t x. both t e (flip x (cond (eqb (latch_at c j).reset 1) 0 1))))

-- the latches from variable v on
unfoldable pub with_resets : Circuit → ℕ → List ℕ → State → ℕ → Outcome
with_resets c v [] s e = outcome s (some e)
with_resets c v (j ∷ js) s e = and_then (with_reset c v j s e) (with_resets c (v + 1) js)
