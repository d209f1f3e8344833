-- The graph and the edge that unrolling gives, as a function of the circuit, b and t. Assumes nothing.
use Rattle.std.specs.Prelude.{Bool, false, cond, List, [], ℕ, zero, suc, ◌+◌, ◌*◌, eqb, length, get_or}
use Rattle.aiger.specs.Bits.{odd}
use Rattle.aiger.specs.Circuit.{Circuit, Gate, var}
use Rattle.aiger.specs.Frames.{free_bits, free_starts}
use Rattle.aiger.specs.Fold.{complement}
use Rattle.layout.specs.Order.{gate_at, depth_first}
use Rattle.meaning.specs.Frame.{input_at, latch_at}
use Rattle.frames.specs.Starts.{free_before}
use Rattle.nodes.specs.Graph.{Pair}
use Rattle.nodes.specs.Edges.{word_edge, edge_word, opposite}
use Rattle.graph.specs.Chosen.{Outcome, conjoin}
use Rattle.unroll.specs.Edges.{free_edge, start_edge}

-- the gates of a graph, and the word of each variable's edge
pub record Mapping : Type 0 where
  pub gates : List Pair
  pub edges : ℕ → ℕ

-- the word of a literal's edge
abbrev pub literal_in : (ℕ → ℕ) → ℕ → ℕ
literal_in edges l = edge_word (cond (odd l) (opposite (word_edge (edges (var l)))) (word_edge (edges (var l))))

-- the edges, but with word j at place j, for each j below n
unfoldable pub filled : (ℕ → ℕ) → (ℕ → ℕ) → ℕ → (ℕ → ℕ) → ℕ → ℕ
filled place words zero edges v = edges v
filled place words (suc n) edges v = cond (eqb (place n) v) (words n) (filled place words n edges v)

-- a gate's variable gets the conjunction of its operands' edges
unfoldable pub gate_made : ℕ → Gate → Mapping → Mapping
gate_made n g s =
    let o = conjoin n s.gates (literal_in s.edges g.left) (literal_in s.edges g.right) in
    record { gates = o.gates; edges = λ v. cond (eqb (var g.lit) v) o.edge (s.edges v) }

-- the same for the first k gates of the depth-first order
unfoldable pub gates_made : Circuit → ℕ → ℕ → Mapping → Mapping
gates_made c n zero s = s
gates_made c n (suc k) s = gate_made n (gate_at c (get_or (depth_first c) k 0)) (gates_made c n k s)

-- the latches get their words and the inputs their free bits, the first input free bit `first`
unfoldable pub leaves_made : Circuit → ℕ → (ℕ → ℕ) → Mapping → Mapping
leaves_made c first words s =
    record {
      gates = s.gates;
      edges =
          filled (λ i. var (input_at c i)) (λ i. edge_word (free_edge (first + i))) (length c.inputs)
          (filled (λ j. var (latch_at c j).lit) words (length c.latches) s.edges);
    }

-- a frame: its leaves, and then all gates
abbrev pub frame_made : Circuit → ℕ → ℕ → (ℕ → ℕ) → Mapping → Mapping
frame_made c n first words s = gates_made c n (length c.gates) (leaves_made c first words s)

-- the words of the latches' starts, and of their next literals
abbrev pub starting : Circuit → ℕ → ℕ
starting c j = edge_word (start_edge (latch_at c j).lit (latch_at c j).reset (free_before c j))

abbrev pub moving : Circuit → Mapping → ℕ → ℕ
moving c s j = literal_in s.edges (latch_at c j).next

-- the conjunction of edge `from` and the first k lines
unfoldable pub lines_made : (ℕ → ℕ) → ℕ → ℕ → ℕ → Mapping → Outcome
lines_made lines n from zero s = record { gates = s.gates; edge = from }
lines_made lines n from (suc k) s =
    conjoin n (lines_made lines n from k s).gates (lines_made lines n from k s).edge (literal_in s.edges (lines k))

-- the same with the constraints of a circuit
abbrev pub constrained_made : Circuit → ℕ → ℕ → Mapping → Outcome
constrained_made c n from s = lines_made (λ j. get_or c.constraints j 0) n from (length c.constraints) s

-- a frame, and the edge that is true where the constraints of all frames up to it hold
pub record Framing : Type 0 where
  pub mapping : Mapping
  pub left : ℕ

abbrev pub framing : (ℕ → ℕ) → Outcome → Framing
framing edges o = record { mapping = record { gates = o.gates; edges = edges }; left = o.edge }

-- frame 0, and the frame after another
abbrev pub first_made : Circuit → ℕ → Mapping
first_made c n = frame_made c n (free_starts c) (starting c) (record { gates = []; edges = λ v. 0 })

abbrev pub next_made : Circuit → ℕ → ℕ → Mapping → Mapping
next_made c n first s = frame_made c n first (moving c s) s

abbrev pub constrained_frame : Circuit → ℕ → ℕ → Mapping → Framing
constrained_frame c n from s = framing s.edges (constrained_made c n from s)

-- what goes on to the next frame: where a hit is to be alone, the sequences that are left and in which bad line b is false
abbrev pub barred : Bool → Circuit → ℕ → ℕ → Framing → Framing
barred alone c b n f =
    cond alone
    (framing f.mapping.edges
    (conjoin n f.mapping.gates f.left (literal_in f.mapping.edges (complement (get_or c.bads b 0))))) f

-- the frame after frame u, whose first input has free bit `first`
abbrev pub after_frame : Circuit → ℕ → ℕ → Framing → Framing
after_frame c n first f = constrained_frame c n f.left (next_made c n first f.mapping)

-- frames 0 to u over n free bits, in the mode; literal 1 is true
unfoldable pub frames_made : Bool → Circuit → ℕ → ℕ → ℕ → Framing
frames_made alone c b n zero = constrained_frame c n 1 (first_made c n)
frames_made alone c b n (suc u) =
    after_frame c n (free_starts c + length c.inputs * suc u) (barred alone c b n (frames_made alone c b n u))

-- what is left after frames 0 to t, and the bad line
unfoldable pub unrolled_by : Bool → Circuit → ℕ → ℕ → Outcome
unrolled_by alone c b t =
    let f = frames_made alone c b (free_bits c t) t in
    conjoin (free_bits c t) f.mapping.gates f.left (literal_in f.mapping.edges (get_or c.bads b 0))

-- the constraints of frames 0 to t and the bad line
abbrev pub unrolled : Circuit → ℕ → ℕ → Outcome
unrolled c b t = unrolled_by false c b t
