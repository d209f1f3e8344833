-- Maps from variables to edges of a graph, and what the private functions do to them. The word of variable v is that of its edge.
-- Assumes nothing.
use Rattle.std.specs.Prelude.{◌≡◌, Bool, true, false, not, ◌&&◌, List, [], ℕ, ◌+◌, ◌*◌, ◌^◌, ◌≤◌, ◌<◌, length, get_or}
use Rattle.aiger.specs.Circuit.{Circuit, Gate, var}
use Rattle.aiger.specs.Frames.{Run, value, free_bit, free_bits, free_starts, run, state, value_at}
use Rattle.aiger.specs.Fold.{complement}
use Rattle.layout.specs.Words.{word, circuit_in}
use Rattle.meaning.specs.Frame.{Valuation}
use Rattle.never_search.specs.Runs.{left_by}
use Rattle.literals.specs.Literal.{literal}
use Rattle.layout.specs.declared.Layout.{Layout}
use Rattle.frames.specs.Lanes.{Ready, Leaves, Computed, constrained_in}
use Rattle.frames.specs.Lanes as lanes
use Rattle.frames.specs.Starts.{free_before}
use Rattle.nodes.specs.Graph.{node_of, edge_value}
use Rattle.nodes.specs.Store.{pairs_of}
use Rattle.nodes.specs.Edges.{edge_word}
use Rattle.nodes.specs.declared.Graph.{Graph}
use Rattle.nodes.specs.declared.Edge.{Edge}
use Rattle.graph.specs.Stored.{Stored}
use Rattle.graph.specs.declared.Made.{Made}
use Rattle.graph.specs.Chosen.{conjoin}
pub use Rattle.unroll.specs.Edges.{literal_edge, free_edge, start_edge}
use Rattle.unroll.specs.Chosen.{Mapping, Framing, literal_in, gate_made, gates_made, first_made, next_made, constrained_made, barred, frames_made}

-- ---- words of a map

-- the circuit in memory m can be evaluated in some order, with count words
abbrev pub Prepared : List ℕ → Layout → ℕ → Type 0
Prepared m layout count = (order : List ℕ) × Ready m layout order count

-- after has words j at place j, for each j below n; the other words are as before
abbrev pub Written : (ℕ → ℕ) → (ℕ → ℕ) → ℕ → List ℕ → List ℕ → Type 0
Written = lanes.Stored

-- the variables of latch j and input i, where the latches begin at latches
abbrev pub latch_var : List ℕ → ℕ → ℕ → ℕ
latch_var m latches j = var (word m (latches + 3 * j))

abbrev pub input_var : List ℕ → ℕ → ℕ
input_var m i = var (word m (7 + i))

-- the words of latch j in frame 0, and of its next literal
abbrev pub start_word : List ℕ → ℕ → ℕ → ℕ
start_word m latches j = edge_word (start_edge (word m (latches + 3 * j)) (word m (latches + 3 * j + 2)) (free_before (circuit_in m) j))

abbrev pub next_word : List ℕ → ℕ → List ℕ → ℕ → ℕ
next_word m latches map j = edge_word (literal_edge map (literal (word m (latches + 3 * j + 1))))

-- the word of input i, where the first input has free bit `first`
abbrev pub input_word : ℕ → ℕ → ℕ
input_word first i = edge_word (free_edge (first + i))

-- every word is 0, the edge of false
abbrev pub Blank : List ℕ → Type 0
Blank map = (v : ℕ) → get_or map v 0 ≡ 0

-- each word is that of an edge of the graph
abbrev pub Edges : Graph → List ℕ → Type 0
Edges g map = (v : ℕ) → node_of (get_or map v 0) < g.nodes

-- the values of the variables in sequence x of n free bits
abbrev pub mapped : ℕ → List ℕ → Graph → List ℕ → ℕ → ℕ → Bool
mapped n work g map x v = edge_value n (pairs_of work g) (free_bit n x) (get_or map v 0)

-- they are those of frame u
abbrev pub Valued : Circuit → ℕ → ℕ → ℕ → List ℕ → Graph → List ℕ → Type 0
Valued c t u n work g map =
    (x : ℕ) → x < 2 ^ n → Valuation c (get_or (run c t x).rows u []) (state c (run c t x) u) (mapped n work g map x)

-- ---- graphs that grow

-- there is room for count nodes more
pub record Extensible (count : ℕ) (work : List ℕ) (g : Graph) (map : List ℕ) : Type 0 where
  pub stored : Stored work g
  pub room : g.nodes + count ≤ g.room
  pub edges : Edges g map

-- graph h in last has n free bits and at most count nodes more than g in work. The edges of g have in h the values that they have in g
pub record Grown (n count : ℕ) (work : List ℕ) (g : Graph) (last : List ℕ) (h : Graph) : Type 0 where
  pub stored : Stored last h
  pub free : h.free ≡ n
  pub room : h.room ≡ g.room
  pub least : g.nodes ≤ h.nodes
  pub most : h.nodes ≤ g.nodes + count
  pub kept : (f : ℕ → Bool) (e : ℕ) → node_of e < g.nodes → edge_value n (pairs_of last h) f e ≡ edge_value n (pairs_of work g) f e

-- the graph and the map are those of s
pub record Agrees (s : Mapping) (work : List ℕ) (g : Graph) (map : List ℕ) : Type 0 where
  pub gates : pairs_of work g ≡ s.gates
  pub edges : (v : ℕ) → get_or map v 0 ≡ s.edges v

-- one gate
pub record GateMapped (gate : Gate) (n : ℕ) (work : List ℕ) (g : Graph) (map last : List ℕ) (h : Graph) (after : List ℕ) : Type 0 where
  pub grown : Grown n 1 work g last h
  pub edges : Edges h after
  pub values : (x : ℕ) → x < 2 ^ n → Computed gate (mapped n work g map x) (mapped n last h after x)
  pub follows : (s : Mapping) → Agrees s work g map → Agrees (gate_made n gate s) last h after

-- all gates of a frame: whatever frame the leaves stood for before, all values are that frame's after
pub record GatesMapped (c : Circuit) (n : ℕ) (work : List ℕ) (g : Graph) (map last : List ℕ) (h : Graph) (after : List ℕ) : Type 0 where
  pub grown : Grown n (length c.gates) work g last h
  pub edges : Edges h after
  pub values : (x : ℕ) → x < 2 ^ n → (row st : List Bool) → Leaves c row st (mapped n work g map x)
      → Valuation c row st (mapped n last h after x)
  pub follows : (s : Mapping) → Agrees s work g map → Agrees (gates_made c n (length c.gates) s) last h after

-- the latches and inputs of the next frame, where its first input has free bit `first`: each latch has the edge of its next literal
pub record LeavesMapped (m : List ℕ) (layout : Layout) (first : ℕ) (map after : List ℕ) : Type 0 where
  pub state : List ℕ
  pub moved : List ℕ
  pub next : (j : ℕ) → j < layout.l → get_or state j 0 ≡ next_word m layout.latches map j
  pub latches : Written (latch_var m layout.latches) (λ j. get_or state j 0) layout.l map moved
  pub inputs : Written (input_var m) (input_word first) layout.i moved after

-- the conjunction of edge `from` and the constraints
pub record ConstrainedMapped (c : Circuit) (from : Edge) (n : ℕ) (work : List ℕ) (g : Graph) (map last : List ℕ) (made : Made)
    : Type 0 where
  pub grown : Grown n (length c.constraints) work g last made.graph
  pub node : made.edge.0.0 < made.graph.nodes
  pub left : (x : ℕ) → x < 2 ^ n
      → edge_value n (pairs_of last made.graph) (free_bit n x) (edge_word made.edge)
      ≡ (edge_value n (pairs_of work g) (free_bit n x) (edge_word from) && constrained_in c (mapped n work g map x))
  pub follows : (s : Mapping) → Agrees s work g map
      → constrained_made c n (edge_word from) s ≡ record { gates = pairs_of last made.graph; edge = edge_word made.edge }

-- all gates of a frame, and the conjunction of the edge that is given with the graph and of the frame's constraints
pub record FrameMapped (c : Circuit) (work : List ℕ) (before : Made) (map last : List ℕ) (made : Made) (after : List ℕ) : Type 0 where
  pub mid : List ℕ
  pub graph : Graph
  pub gates : GatesMapped c before.graph.free work before.graph map mid graph after
  pub constraints : ConstrainedMapped c before.edge graph.free mid graph after last made

-- the edge is true for the sequences of frame t whose run is kept
abbrev pub Keeps : Circuit → ℕ → (Run → Bool) → ℕ → List ℕ → Made → Type 0
Keeps c t keep n work made =
    (x : ℕ) → x < 2 ^ n → edge_value n (pairs_of work made.graph) (free_bit n x) (edge_word made.edge) ≡ keep (run c t x)

-- frames 0 to u of t, made as f, with the edge of the sequences that are kept; `count` nodes are the most that was made
pub record Framed (c : Circuit) (t u n room count : ℕ) (keep : Run → Bool) (f : Framing) (work : List ℕ) (made : Made) (map : List ℕ)
    : Type 0 where
  pub stored : Stored work made.graph
  pub free : made.graph.free ≡ n
  pub room-is : made.graph.room ≡ room
  pub most : made.graph.nodes ≤ n + 1 + count
  pub edges : Edges made.graph map
  pub node : made.edge.0.0 < made.graph.nodes
  pub values : n ≡ free_bits c t → Valued c t u n work made.graph map
  pub kept : n ≡ free_bits c t → Keeps c t keep n work made
  pub agrees : Agrees f.mapping work made.graph map
  pub left : edge_word made.edge ≡ f.left

-- how many nodes frames 0 to u have at most: gates and constraints of each, and the bad line of each before the last
abbrev pub nodes_to : Circuit → ℕ → ℕ
nodes_to c u = (length c.gates + length c.constraints) * (u + 1) + u

-- frames 0 to u with the edge of the sequences that can still hit at frame u
abbrev pub FramedTo : Bool → Circuit → ℕ → ℕ → ℕ → ℕ → ℕ → List ℕ → Made → List ℕ → Type 0
FramedTo alone c b t u n room work made map =
    Framed c t u n room (nodes_to c u) (λ r. left_by alone c b r u) (frames_made alone c b n u) work made map

-- the same with the edge of those that go on to frame u + 1
abbrev pub BarredTo : Bool → Circuit → ℕ → ℕ → ℕ → ℕ → ℕ → List ℕ → Made → List ℕ → Type 0
BarredTo alone c b t u n room work made map =
    Framed c t u n room (nodes_to c u + 1) (λ r. left_by alone c b r u && not (alone && value_at c r u (get_or c.bads b 0)))
    (barred alone c b n (frames_made alone c b n u)) work made map

-- the conjunction of the edge that is given with the graph and of literal l
pub record LineMapped (l n : ℕ) (work : List ℕ) (before : Made) (map last : List ℕ) (made : Made) : Type 0 where
  pub grown : Grown n 1 work before.graph last made.graph
  pub node : made.edge.0.0 < made.graph.nodes
  pub line : (x : ℕ) → x < 2 ^ n
      → edge_value n (pairs_of last made.graph) (free_bit n x) (edge_word made.edge)
      ≡ (edge_value n (pairs_of work before.graph) (free_bit n x) (edge_word before.edge)
      && value (mapped n work before.graph map x) l)
  pub follows : (s : Mapping) → Agrees s work before.graph map
      → conjoin n s.gates (edge_word before.edge) (literal_in s.edges l)
      ≡ record { gates = pairs_of last made.graph; edge = edge_word made.edge }

-- the same of bad line b, and of its complement where a hit is to be alone; else all is as it was
abbrev pub HitMapped : Circuit → ℕ → ℕ → List ℕ → Made → List ℕ → List ℕ → Made → Type 0
HitMapped c b n work before map last made = LineMapped (get_or c.bads b 0) n work before map last made

abbrev pub BarMapped : Bool → Circuit → ℕ → ℕ → List ℕ → Made → List ℕ → List ℕ → Made → Type 0
BarMapped true c b n work before map last made = LineMapped (complement (get_or c.bads b 0)) n work before map last made
BarMapped false c b n work before map last made = (last ≡ work) × (made ≡ before)

-- what frame 0 requires of the graph
pub record FirstFits (layout : Layout) (work : List ℕ) (g : Graph) (map : List ℕ) : Type 0 where
  pub blank : Blank map
  pub extensible : Extensible (layout.a + layout.c) work g map
  pub bits : layout.u + layout.i ≤ g.free

-- what the frames after it require
pub record FramesFit (m : List ℕ) (layout : Layout) (alone : Bool) (b t : ℕ) (work : List ℕ) (first : Made) (map : List ℕ) : Type 0 where
  pub bad : b < word m 5
  pub framed : FramedTo alone (circuit_in m) b t 0 first.graph.free first.graph.room work first map
  pub room : first.graph.free + 1 + nodes_to (circuit_in m) t ≤ first.graph.room
  pub bits : layout.u + layout.i * (t + 1) ≤ first.graph.free
