-- The states, rows and start states of the machine of a circuit, for a plan of its variables. Assumes nothing.
use Rattle.std.specs.Prelude.{◌≡◌, Bool, true, false, cond, List, map, ℕ, ◌+◌, ◌^◌, ◌<◌, eqb, ltb, length, get_or}
use Rattle.aiger.specs.Bits.{bit}
use Rattle.aiger.specs.Circuit.{Circuit}
use Rattle.aiger.specs.Frames.{is_free}
use Rattle.aiger.specs.Frames as frames
use Rattle.meaning.specs.Frame.{latch_at}
use Rattle.frames.specs.Lanes.{constrained_in, hit_in}
use Rattle.influence.specs.Part.{Part}
use Rattle.influence.specs.Cone.{kept_below}
use Rattle.transitions.specs.Transitions.{rank_in}
use Rattle.diagrams.specs.Meaning.{Assignment}
use Rattle.diagram_rows.specs.Rows.{Plan}
use Rattle.diagram_rows.specs.Meaning.{Matches}
use Rattle.state_sets.specs.Shape.{row_at}
use Rattle.state_sets.specs.Meaning.{Values}

-- state s as an assignment, where variable v is the latch at that place of the list
unfoldable pub code_of : Part → List ℕ → ℕ → Assignment
code_of part latches s v = cond (ltb v (length latches)) (bit s (rank_in part.kept (get_or latches v 0))) false

-- every latch of the list is one that is kept, and none is there twice
pub record Among (part : Part) (latches : List ℕ) : Type 0 where
  pub kept : (v : ℕ) → v < length latches → (i : ℕ) × (i < length part.kept) × (get_or part.kept i 0 ≡ get_or latches v 0)
  pub apart : (u v : ℕ) → u < length latches → v < length latches → get_or latches u 0 ≡ get_or latches v 0 → u ≡ v

-- the free latches by their places in the file, and the variable of each, or their number where it has none
unfoldable pub free_places : Circuit → List ℕ
free_places c = kept_below (λ j. is_free (latch_at c j)) (length c.latches)

unfoldable pub frees_of : Circuit → List ℕ → List ℕ
frees_of c latches = map (rank_in latches) (free_places c)

-- the start value of a latch that has one, 0 for a free one
abbrev pub reset_word : Circuit → ℕ → ℕ
reset_word c j = cond (is_free (latch_at c j)) 0 (cond (eqb (latch_at c j).reset 1) 1 0)

-- the start values of the variables
unfoldable pub base_of : Circuit → List ℕ → List ℕ
base_of c latches = map (reset_word c) latches

-- the values of row k of a table are those of a plan's row k: in every frame whose latches are those of the assignment and whose inputs
-- that matter are the bits of k
pub record RowValued (c : Circuit) (b : ℕ) (p : Plan) (k : ℕ) (vs : Values) : Type 0 where
  pub next : (v : ℕ) → v < length p.latches → (w : ℕ → Bool) (x : Assignment) → Matches c p k w x
      → vs (row_at (length p.latches) k + v) x ≡ frames.value w (latch_at c (get_or p.latches v 0)).next
  pub con : (w : ℕ → Bool) (x : Assignment) → Matches c p k w x
      → vs (row_at (length p.latches) k + length p.latches) x ≡ constrained_in c w
  pub hit : (w : ℕ → Bool) (x : Assignment) → Matches c p k w x
      → vs (row_at (length p.latches) k + length p.latches + 1) x ≡ hit_in c b w

-- the first k rows
abbrev pub RowsMade : Circuit → ℕ → Plan → ℕ → Values → Type 0
RowsMade c b p k vs = (j : ℕ) → j < k → RowValued c b p j vs
