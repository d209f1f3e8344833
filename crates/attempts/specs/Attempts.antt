-- What an effort finds of a frame, as a function of circuit, b, t and the effort. The first sequences are tried on the circuit. Where the
-- support of the hit is small, all its places are tried, if the effort allows the cost; else the conflict search has the effort. What is
-- found does not depend on a budget. Assumes nothing.
use Rattle.std.specs.Prelude.{◌≡◌, Bool, cond, ◌&&◌, List, ℕ, ◌*◌, ◌/◌, ◌^◌, ◌≤◌, leb}
use Rattle.aiger.specs.Circuit.{Circuit}
use Rattle.aiger.specs.Frames.{free_bits, size}
use Rattle.aiger.specs.Search.{question, Decision}
use Rattle.enumeration.specs.Choice.{decision_at}
use Rattle.enumeration.specs.Frame.{FreeBits}
use Rattle.nodes.specs.Graph.{nodes}
use Rattle.nodes.specs.Store.{pairs_of}
use Rattle.nodes.specs.Edges.{edge_word}
use Rattle.graph.specs.declared.Made.{Made}
use Rattle.simulation.specs.Store.{Net}
use Rattle.support.specs.Counting.{rank}
use Rattle.support.specs.Support.{support}
use Rattle.unroll.specs.Chosen.{unrolled}
use Rattle.conflicts.specs.declared.Verdict as conflict
use Rattle.conflicts.specs.declared.Verdict.TheVariants.{Found, Clear, Out}
use Rattle.solver.specs.Solved.{solved}
use Rattle.decision.specs.Reach.{first_places}
use Rattle.stages.specs.Conflicts.{Verdict, Attempt}
use Rattle.attempts.specs.declared.Tried as code
use Rattle.attempts.specs.declared.Tried.TheVariants as tried

-- what decides no frame
abbrev pub undecided : Attempt
undecided = record { verdict = Verdict.out; used = 0 }

-- what all sequences of a frame have, found with so much effort: only that of a frame without a hit counts further on
abbrev pub whole : Decision → ℕ → Attempt
whole (Decision.hit x) used = record { verdict = Verdict.hit x; used = 0 }
whole Decision.clear used = record { verdict = Verdict.clear; used = used }
whole Decision.spent used = undecided

-- all sequences, where the conflict search comes to an end
abbrev pub by_search : conflict.Verdict → Decision → Attempt
by_search Found all = whole all 0
by_search (Clear used) all = whole all used
by_search Out all = undecided

-- what the first sequences have; where they are not all and do not hit, what follows
abbrev pub first_or : Decision → Attempt → Attempt
first_or (Decision.hit x) later = whole (Decision.hit x) 0
first_or Decision.clear later = whole Decision.clear 0
first_or Decision.spent later = later

-- whether a support of s free bits in a graph of so many nodes is small
abbrev pub is_small : ℕ → ℕ → Bool
is_small s size = leb s 20 && leb (2 ^ s * size) 4294967296

-- the cost of trying all its places: 64 of them are one word of each node, and 16 words are one step of the conflict search's work
abbrev pub cost_of : ℕ → ℕ → ℕ
cost_of s size = 2 ^ s * size / 1024

-- the free bits that lead to the hit of frame t, and the nodes of its graph
unfoldable pub support_at : Circuit → ℕ → ℕ → ℕ
support_at c b t = rank (support (free_bits c t) (unrolled c b t).gates (unrolled c b t).edge) (free_bits c t)

unfoldable pub nodes_at : Circuit → ℕ → ℕ → ℕ
nodes_at c b t = nodes (free_bits c t) (unrolled c b t).gates

-- what all sequences of frame t have
abbrev pub all_of : Circuit → ℕ → ℕ → Decision
all_of c b t = decision_at (question c b) t (2 ^ free_bits c t)

-- what the conflict search says of it, in so many words and with an effort of e
unfoldable pub solved_at : Circuit → (b t words e : ℕ) → conflict.Verdict
solved_at c b t words e = solved (free_bits c t) (unrolled c b t).gates (unrolled c b t).edge words e

-- by the graph of the hit, with an effort of e
unfoldable pub graph_attempt : Circuit → ℕ → ℕ → ℕ → Attempt
graph_attempt c b t e =
    cond (is_small (support_at c b t) (nodes_at c b t))
    (cond (leb (cost_of (support_at c b t) (nodes_at c b t)) e) (whole (all_of c b t) (cost_of (support_at c b t) (nodes_at c b t))) undecided)
    (by_search (solved_at c b t (16 * size c t) e) (all_of c b t))

unfoldable pub attempt_of : Circuit → ℕ → ℕ → ℕ → Attempt
attempt_of c b t e = first_or (decision_at (question c b) t (first_places (free_bits c t))) (graph_attempt c b t e)

-- ---- contracts

-- what an answer of the code stands for; after a hit, working memory begins with the free bits of the first one
abbrev pub Answers : Attempt → ℕ → List ℕ → code.Tried → Type 0
Answers a n work tried.Hit = (x : ℕ) × (a ≡ record { verdict = Verdict.hit x; used = 0 }) × FreeBits n x work
Answers a n work (tried.Clear used) = a ≡ record { verdict = Verdict.clear; used = used }
Answers a n work tried.Out = a ≡ undecided

abbrev pub AttemptIs : Circuit → ℕ → ℕ → ℕ → List ℕ → code.Tried → Type 0
AttemptIs c b t e work r = Answers (attempt_of c b t e) (free_bits c t) work r

abbrev pub GraphIs : Circuit → ℕ → ℕ → ℕ → List ℕ → code.Tried → Type 0
GraphIs c b t e work r = Answers (graph_attempt c b t e) (free_bits c t) work r

-- where the places of a support of s free bits may all be tried
pub record Scannable (work : List ℕ) (made : Made) (s : ℕ) : Type 0 where
  pub net : Net (pairs_of work made.graph) (edge_word made.edge) work made.graph
  pub count : s ≡ rank (support made.graph.free (pairs_of work made.graph) (edge_word made.edge)) made.graph.free
  pub few : s ≤ 20
