-- What unrolling requires and leaves. Assumes nothing.
use Rattle.std.specs.Prelude.{◌≡◌, Bool, false, List, ℕ, ◌*◌, ◌^◌, ◌≤◌, ◌<◌, length}
use Rattle.aiger.specs.Circuit.{Circuit}
use Rattle.aiger.specs.Frames.{free_bits, free_bit, size}
use Rattle.layout.specs.Words.{word, circuit_in}
use Rattle.layout.specs.declared.Layout.{Layout}
use Rattle.frames.specs.Lanes.{Ready}
use Rattle.never_search.specs.Runs.{reaches_by}
use Rattle.nodes.specs.Graph.{edge_value}
use Rattle.nodes.specs.Store.{pairs_of}
use Rattle.nodes.specs.Edges.{edge_word}
use Rattle.graph.specs.Stored.{Stored}
use Rattle.graph.specs.declared.Made.{Made}
use Rattle.unroll.specs.Chosen.{unrolled_by}

-- a circuit in memory m that is ready to be evaluated, and working memory for a node for each unit of size
pub record UnrollFits (work m : List ℕ) (layout : Layout) (order : List ℕ) (b t room : ℕ) : Type 0 where
  pub ready : Ready m layout order 4097
  pub bad : b < word m 5
  pub last : t ≤ 255
  pub room-is : room ≡ size (circuit_in m) t
  pub most : room ≤ 65536
  pub held : 16 * room ≤ length work

-- the edge is true exactly for the sequences of frame t that hit b, in the mode
pub record UnrolledBy (alone : Bool) (c : Circuit) (b t : ℕ) (work : List ℕ) (room : ℕ) (made : Made) : Type 0 where
  pub stored : Stored work made.graph
  pub free : made.graph.free ≡ free_bits c t
  pub room-is : made.graph.room ≡ room
  pub node : made.edge.0.0 < made.graph.nodes
  pub hit : (x : ℕ) → x < 2 ^ free_bits c t
      → edge_value (free_bits c t) (pairs_of work made.graph) (free_bit (free_bits c t) x) (edge_word made.edge)
      ≡ reaches_by alone c b t x
  -- of the graphs with such an edge it is the one that the mode, the circuit, b and t alone say
  pub chosen : unrolled_by alone c b t ≡ record { gates = pairs_of work made.graph; edge = edge_word made.edge }

-- the same for any hit
abbrev pub Unrolled : Circuit → ℕ → ℕ → List ℕ → ℕ → Made → Type 0
Unrolled c b t work room made = UnrolledBy false c b t work room made
