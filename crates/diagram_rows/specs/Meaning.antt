-- What the edges of a row mean: in every frame whose latches are those of the assignment, and whose inputs that matter are the bits of the
-- row, they have the values of what they were made for. Assumes nothing.
use Rattle.std.specs.Prelude.{◌≡◌, Bool, false, ◌&&◌, List, ℕ, ◌+◌, ◌<◌, length, get_or}
use Rattle.std.proofs.Math.Option.{Option, none, some}
use Rattle.aiger.specs.Circuit.{Circuit, var}
use Rattle.aiger.specs.Frames.{free_bit}
use Rattle.aiger.specs.Frames as frames
use Rattle.meaning.specs.Frame.{input_at, latch_at, gate_at}
use Rattle.frames.specs.Lanes.{constrained_in, hit_in}
use Rattle.diagrams.specs.States.{State}
use Rattle.diagrams.specs.declared.Vertex.{Vertex}
use Rattle.diagrams.specs.Meaning.{Assignment, value, In, Terms, Good, Front}
use Rattle.diagram_rows.specs.Rows.{absent, Plan, Filled}

-- w are the values of the variables of a frame, x has those of the latches of the plan, and its inputs that matter are the bits of row r
pub record Matches (c : Circuit) (p : Plan) (r : ℕ) (w : ℕ → Bool) (x : Assignment) : Type 0 where
  pub constant : w 0 ≡ false
  pub latch : (v : ℕ) → v < length p.latches → x v ≡ w (var (latch_at c (get_or p.latches v 0)).lit)
  pub input : (k : ℕ) → k < length p.inputs → w (var (input_at c (get_or p.inputs k 0))) ≡ free_bit (length p.inputs) r k
  pub gate :
      (i : ℕ) → w (var (gate_at c i).lit) ≡ (frames.value w (gate_at c i).left && frames.value w (gate_at c i).right)

-- e is an edge of the diagram, and has in every such frame the value f
pub record Means (c : Circuit) (p : Plan) (r : ℕ) (f : (ℕ → Bool) → Bool) (ns : List Vertex) (e : ℕ) : Type 0 where
  pub inside : In ns e
  pub same : (w : ℕ → Bool) (x : Assignment) → Matches c p r w x → value ns x e ≡ f w

-- every variable that has an edge in a map has the value of that edge
pub record MapMeans (c : Circuit) (p : Plan) (r : ℕ) (ns : List Vertex) (m : List ℕ) : Type 0 where
  pub edge : (v : ℕ) → (get_or m v absent ≡ absent → ⊥) → Means c p r (λ w. w v) ns (get_or m v absent)

-- the words of a row: the next states of the latches of the plan, the constraints, and the constraints with bad line b
pub record RowMeans (c : Circuit) (b : ℕ) (p : Plan) (r : ℕ) (ns : List Vertex) (ws : List ℕ) : Type 0 where
  pub size : length ws ≡ length p.latches + 2
  pub next : (v : ℕ) → v < length p.latches
      → Means c p r (λ w. frames.value w (latch_at c (get_or p.latches v 0)).next) ns (get_or ws v 0)
  pub con : Means c p r (λ w. constrained_in c w) ns (get_or ws (length p.latches) 0)
  pub hit : Means c p r (λ w. hit_in c b w) ns (get_or ws (length p.latches + 1) 0)

-- no words, or words of which holds what is asked
pub data Got (asked : List ℕ → Type 0) : Option (List ℕ) → Type 0 where
  no_words : Got asked none
  has_words : {ws : List ℕ} → asked ws → Got asked (some ws)

-- the state that is left is good, nodes were only added, and what is asked holds of the words in the diagram that is left
pub record RightFilled (terms : Terms) (s : State) (asked : List Vertex → List ℕ → Type 0) (o : Filled) : Type 0 where
  pub good : Good terms o.state
  pub grows : Front s.nodes o.state.nodes
  pub answer : Got (asked o.state.nodes) o.words
