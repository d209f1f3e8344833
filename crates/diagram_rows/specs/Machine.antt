-- What the words of a row say of the machine of a circuit. Assumes nothing.
use Rattle.std.specs.Prelude.{◌≡◌, List, ℕ, ◌+◌, ◌<◌, length, get_or}
use Rattle.aiger.specs.Bits.{bit}
use Rattle.frames.specs.Lanes.{constrained_in, hit_in}
use Rattle.influence.specs.Part.{Part, kept_at}
use Rattle.transitions.specs.Transitions.{rank_in, values_in, next_number}
use Rattle.diagrams.specs.declared.Vertex.{Vertex}
use Rattle.diagrams.specs.Meaning.{Assignment, value}
use Rattle.diagram_rows.specs.Rows.{Plan}

-- the values of the variables of a diagram at state s: variable v is the v-th latch of the plan
abbrev pub assignment_of : Part → Plan → ℕ → Assignment
assignment_of part p s v = bit s (rank_in part.kept (get_or p.latches v 0))

-- the latches of the plan are latches that are kept
pub record KeptPlan (part : Part) (p : Plan) : Type 0 where
  pub at : (v : ℕ) → v < length p.latches → (i : ℕ) × (i < length part.kept) × (kept_at part i ≡ get_or p.latches v 0)

-- at state s, with row q of all inputs: the next state, whether the row breaks a constraint, and whether it is a hit
pub record RowSays (part : Part) (b : ℕ) (p : Plan) (s q : ℕ) (ns : List Vertex) (ws : List ℕ) : Type 0 where
  pub next : (v : ℕ) → v < length p.latches
      → value ns (assignment_of part p s) (get_or ws v 0) ≡ assignment_of part p (next_number part s q) v
  pub con : value ns (assignment_of part p s) (get_or ws (length p.latches) 0) ≡ constrained_in part.circuit (values_in part s q)
  pub hit : value ns (assignment_of part p s) (get_or ws (length p.latches + 1) 0) ≡ hit_in part.circuit b (values_in part s q)
