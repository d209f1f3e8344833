-- What the conflict search says of a root edge of a graph from a place on. Assumes nothing.
use Rattle.std.specs.Prelude.{◌≡◌, Bool, cond, List, ℕ, zero, suc, ◌+◌, ◌-◌, ◌*◌, ◌/◌, ◌%◌, ◌^◌, ◌≤◌, ◌<◌, T, eqb, length, get_or}
use Rattle.aiger.specs.Bits.{nonzero, bit}
use Rattle.aiger.specs.Frames.{free_bit}
use Rattle.nodes.specs.Graph.{Pair, edge_value}
use Rattle.memory.specs.Record.{field, stored, bit_at}
use Rattle.clauses.specs.Floor.{prefix}
use Rattle.floor.specs.Place.{floor_bit}
use Rattle.conflicts.specs.Conflicts.{ran}
use Rattle.conflicts.specs.declared.Verdict.{Verdict}
use Rattle.conflicts.specs.declared.Verdict.TheVariants.{Found, Clear, Out}
use Rattle.netlist.specs.Netlist.{net_nodes, net_words, net_of}

-- ---- the words of a netlist with the floor at a place

abbrev pub with_digit : ℕ → ℕ → ℕ
with_digit fact digit = fact / 16 * 16 + fact % 4 + 4 * digit

-- the digit as the floor's bit of node v; a node on which the hit does not depend becomes the conjunction of itself and true, and so idle
unfoldable pub started_bit : List ℕ → ℕ → ℕ → ℕ → List ℕ
started_bit w nodes v digit =
    cond (eqb (bit_at (field w nodes v 2)) 2)
    (stored (stored w nodes v 2 (with_digit (field w nodes v 2) digit)) nodes v 1 1)
    (stored w nodes v 2 (with_digit (field w nodes v 2) digit))

-- digit i of a number, 0 or 1
abbrev pub digit_at : ℕ → ℕ → ℕ
digit_at x i = cond (bit x i) 1 0

-- of k free bits after the first j, where there are n: free bit j is digit n - 1 - j of the place
unfoldable pub started_bits : List ℕ → ℕ → ℕ → ℕ → ℕ → ℕ → List ℕ
started_bits w nodes n place j zero = w
started_bits w nodes n place j (suc k) =
    started_bits (started_bit w nodes (j + 1) (digit_at place (n - (j + 1)))) nodes n place (j + 1) k

unfoldable pub start_words : ℕ → List Pair → ℕ → ℕ → ℕ → List ℕ
start_words n gs root words place = started_bits (net_words n gs root words) (net_nodes n gs root) n place 0 n

-- ---- what the search says

-- as a function of graph, root, number of words, place and effort
unfoldable pub solved_from : ℕ → List Pair → ℕ → ℕ → ℕ → ℕ → Verdict
solved_from n gs root words place effort = (ran (start_words n gs root words place) (net_of n gs root words) effort).verdict

-- the floor that it comes to, as a function of the same
unfoldable pub floor_from : ℕ → List Pair → ℕ → ℕ → ℕ → ℕ → ℕ
floor_from n gs root words place effort =
    prefix (floor_bit (ran (start_words n gs root words place) (net_of n gs root words) effort).words (net_nodes n gs root)) n

-- the root is false in each sequence from lo up to m
abbrev pub NoneBetween : ℕ → List Pair → ℕ → ℕ → ℕ → Type 0
NoneBetween n gs root lo m = (x : ℕ) → lo ≤ x → x < m → T (edge_value n gs (free_bit n x) root) → ⊥

-- the words begin with the free bits of sequence x
abbrev pub BitsOf : ℕ → ℕ → List ℕ → Type 0
BitsOf n x words = (j : ℕ) → j < n → nonzero (get_or words j 0) ≡ free_bit n x j

-- sequence x is the first one at or after lo that makes the root true, and the words begin with its free bits
pub record FirstFrom (n : ℕ) (gs : List Pair) (root lo x : ℕ) (words : List ℕ) : Type 0 where
  pub from : lo ≤ x
  pub place : x < 2 ^ n
  pub true-there : T (edge_value n gs (free_bit n x) root)
  pub first : NoneBetween n gs root lo x
  pub bits : BitsOf n x words

-- sequence x is one such that none from lo up to it makes the root true, and the words begin with its free bits
pub record FloorAt (n : ℕ) (gs : List Pair) (root lo x : ℕ) (words : List ℕ) : Type 0 where
  pub place : x < 2 ^ n
  pub none : NoneBetween n gs root lo x
  pub bits : BitsOf n x words

abbrev pub SolvedFrom : ℕ → List Pair → ℕ → ℕ → List ℕ → ℕ → List ℕ → Verdict → Type 0
SolvedFrom n gs root lo work effort last Found =
    (solved_from n gs root (length work) lo effort ≡ Found) × ((x : ℕ) × FirstFrom n gs root lo x last)
SolvedFrom n gs root lo work effort last (Clear used) =
    (solved_from n gs root (length work) lo effort ≡ Clear used) × NoneBetween n gs root lo (2 ^ n)
SolvedFrom n gs root lo work effort last Out =
    (solved_from n gs root (length work) lo effort ≡ Out) × FloorAt n gs root lo (floor_from n gs root (length work) lo effort) last
