-- What the treatment of a frame requires, answers and leaves. Assumes nothing.
use Rattle.std.specs.Prelude.{◌≡◌, Bool, false, List, ℕ, ◌*◌, ◌^◌, ◌≤◌, ◌<◌, T, length}
use Rattle.aiger.specs.Circuit.{Circuit}
use Rattle.aiger.specs.Frames.{free_bits, size}
use Rattle.aiger.specs.Search.{Decision}
use Rattle.never_search.specs.Runs.{reaches_by}
use Rattle.layout.specs.Words.{word, circuit_in}
use Rattle.layout.specs.declared.Layout.{Layout}
use Rattle.frames.specs.Lanes.{Ready}
use Rattle.enumeration.specs.Frame.{FreeBits}
use Rattle.enumeration.specs.declared.Frame.{Frame}
use Rattle.enumeration.specs.declared.Frame.TheVariants.{Hit, Clear, Spent}
use Rattle.nodes.specs.Graph.{Pair}
use Rattle.nodes.specs.Store.{pairs_of}
use Rattle.nodes.specs.Edges.{edge_word}
use Rattle.nodes.specs.declared.Graph.{Graph}
use Rattle.graph.specs.declared.Made.{Made}
use Rattle.support.specs.Counting.{rank, passed}
use Rattle.support.specs.Support.{support}
use Rattle.simulation.specs.Store.{Net, hit_at}
use Rattle.simulation.specs.Found.{root_at, NoHit, FirstHit}
use Rattle.unroll.specs.Chosen.{unrolled_by}
use Rattle.solver.specs.Solved.{FloorLeft}
use Rattle.decision.specs.Reach.{floor_by, end_of, reached_by, decision_by}

-- a circuit in memory m that is ready to be evaluated, and 16 words of working memory for each unit of the size at bound t
pub record FrameFits (work m : List ℕ) (layout : Layout) (order : List ℕ) (b t D : ℕ) : Type 0 where
  pub ready : Ready m layout order 4097
  pub bad : b < word m 5
  pub last : t ≤ 255
  pub some : 1 ≤ D
  pub budget : D ≤ 4294967296
  pub units : size (circuit_in m) t ≤ 65536
  pub held : 16 * size (circuit_in m) t ≤ length work

-- the frame is spent: none of the first `reached` sequences hits, D of them or more but not all, and working memory begins with the
-- free bits of the one after them, if these are no more than 1,024
pub record SpentBy (alone : Bool) (c : Circuit) (b t D : ℕ) (work : List ℕ) : Type 0 where
  pub decided : decision_by alone c b t D ≡ Decision.spent
  pub none : (x : ℕ) → x < reached_by alone c b t D → T (reaches_by alone c b t x) → ⊥
  pub least : D ≤ reached_by alone c b t D
  pub most : reached_by alone c b t D < 2 ^ free_bits c t
  pub bits : free_bits c t ≤ 1024 → FreeBits (free_bits c t) (reached_by alone c b t D) work

-- after a hit, working memory begins with the free bits of the first one
abbrev pub DecidedBy : Bool → Circuit → ℕ → ℕ → ℕ → List ℕ → Frame → Type 0
DecidedBy alone c b t D work Hit = (x : ℕ) × (decision_by alone c b t D ≡ Decision.hit x) × FreeBits (free_bits c t) x work
DecidedBy alone c b t D work Clear = decision_by alone c b t D ≡ Decision.clear
DecidedBy alone c b t D work Spent = SpentBy alone c b t D work

-- working memory begins with the free bits of the floor, before which no sequence hits
pub record Floored (alone : Bool) (c : Circuit) (b t D : ℕ) (work : List ℕ) : Type 0 where
  pub place : floor_by alone c b t D < 2 ^ free_bits c t
  pub none : (x : ℕ) → x < floor_by alone c b t D → T (reaches_by alone c b t x) → ⊥
  pub bits : FreeBits (free_bits c t) (floor_by alone c b t D) work

-- the graph of the hit stands in working memory, with the marks of its cone
pub record PreparedBy (alone : Bool) (c : Circuit) (b t : ℕ) (work : List ℕ) (made : Made) : Type 0 where
  pub net : Net (pairs_of work made.graph) (edge_word made.edge) work made.graph
  pub free : made.graph.free ≡ free_bits c t
  pub room : made.graph.room ≡ size c t
  -- the root is true exactly where the frame is hit
  pub hit : (x : ℕ) → x < 2 ^ free_bits c t
      → root_at made.graph.free (pairs_of work made.graph) (edge_word made.edge) x ≡ reaches_by alone c b t x
  pub chosen : unrolled_by alone c b t ≡ record { gates = pairs_of work made.graph; edge = edge_word made.edge }

-- where the places of the support may be tried, and none before place `from` hits
pub record Scannable (work : List ℕ) (g : Graph) (root from D : ℕ) : Type 0 where
  pub net : Net (pairs_of work g) root work g
  pub budget : D ≤ 4294967296
  pub none : (y : ℕ) → y < from → T (hit_at g.free (pairs_of work g) root y) → ⊥

-- what a budget of D places of the support finds
abbrev pub Scanned : ℕ → List Pair → ℕ → ℕ → List ℕ → Frame → Type 0
Scanned n gs root D work Hit = (x : ℕ) × FirstHit n gs root D work x
Scanned n gs root D work Clear = (2 ^ rank (support n gs root) n ≤ D) × NoHit n gs root (2 ^ n)
Scanned n gs root D work Spent = (D < 2 ^ rank (support n gs root) n) × NoHit n gs root (passed (support n gs root) n D)

-- where they may be tried from a sequence on, before which none hits
pub record Resumable (work : List ℕ) (g : Graph) (root D : ℕ) (bits : List ℕ) : Type 0 where
  pub net : Net (pairs_of work g) root work g
  pub budget : D ≤ 4294967296
  pub long : g.free ≤ length bits
  pub from : ℕ
  pub left : FloorLeft g.free (pairs_of work g) root from bits

-- D places and more are spent: none of the sequences before the end hits, and the words begin with its free bits
pub record Stopped (n : ℕ) (gs : List Pair) (root D x : ℕ) (work : List ℕ) : Type 0 where
  pub beyond : D < 2 ^ rank (support n gs root) n
  pub tried : NoHit n gs root (passed (support n gs root) n D)
  pub none : NoHit n gs root (end_of n gs root D x)
  pub least : D ≤ end_of n gs root D x
  pub most : end_of n gs root D x < 2 ^ n
  pub bits : FreeBits n (end_of n gs root D x) work

-- what D places find from sequence x on
abbrev pub Resumed : ℕ → List Pair → ℕ → ℕ → ℕ → List ℕ → Frame → Type 0
Resumed n gs root D x work Hit = (z : ℕ) × FirstHit n gs root D work z
Resumed n gs root D x work Clear = (2 ^ rank (support n gs root) n ≤ D) × NoHit n gs root (2 ^ n)
Resumed n gs root D x work Spent = Stopped n gs root D x work

-- ---- the same of any hit

abbrev pub SpentAt : Circuit → ℕ → ℕ → ℕ → List ℕ → Type 0
SpentAt c b t D work = SpentBy false c b t D work

abbrev pub FrameDecided : Circuit → ℕ → ℕ → ℕ → List ℕ → Frame → Type 0
FrameDecided c b t D work r = DecidedBy false c b t D work r

abbrev pub Prepared : Circuit → ℕ → ℕ → List ℕ → Made → Type 0
Prepared c b t work made = PreparedBy false c b t work made
