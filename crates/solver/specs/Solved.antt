-- What the conflict search says of a root edge of a graph. Assumes nothing.
use Rattle.std.specs.Prelude.{◌≡◌, List, ℕ, zero, suc, ◌+◌, ◌^◌, ◌<◌, T, length, get_or, set}
use Rattle.aiger.specs.Bits.{nonzero}
use Rattle.aiger.specs.Frames.{free_bit}
use Rattle.nodes.specs.Graph.{Pair, edge_value}
use Rattle.clauses.specs.Floor.{prefix}
pub use Rattle.floor.specs.Place.{floor_bit}
use Rattle.conflicts.specs.Conflicts.{ran}
use Rattle.conflicts.specs.declared.Verdict.{Verdict}
use Rattle.conflicts.specs.declared.Verdict.TheVariants.{Found, Clear, Out}
use Rattle.netlist.specs.Netlist.{net_nodes, net_words, net_of}

-- the floor's bits of k nodes after node j, from word j on
unfoldable pub bits_put : List ℕ → ℕ → ℕ → ℕ → List ℕ
bits_put w nodes j zero = w
bits_put w nodes j (suc k) = bits_put (set w j (floor_bit w nodes (j + 1))) nodes (j + 1) k

-- what the search says, as a function of graph, root, number of words and effort
unfoldable pub solved : ℕ → List Pair → ℕ → ℕ → ℕ → Verdict
solved n gs root words effort = (ran (net_words n gs root words) (net_of n gs root words) effort).verdict

-- the floor that it comes to, as a function of the same
unfoldable pub solved_floor : ℕ → List Pair → ℕ → ℕ → ℕ → ℕ
solved_floor n gs root words effort =
    prefix (floor_bit (ran (net_words n gs root words) (net_of n gs root words) effort).words (net_nodes n gs root)) n

-- the root is false in each sequence below m
abbrev pub NoneBelow : ℕ → List Pair → ℕ → ℕ → Type 0
NoneBelow n gs root m = (x : ℕ) → x < m → T (edge_value n gs (free_bit n x) root) → ⊥

-- sequence x is the first one that makes the root true, and the words begin with its free bits
pub record FirstTrue (n : ℕ) (gs : List Pair) (root x : ℕ) (words : List ℕ) : Type 0 where
  pub place : x < 2 ^ n
  pub true-there : T (edge_value n gs (free_bit n x) root)
  pub first : NoneBelow n gs root x
  pub bits : (j : ℕ) → j < n → nonzero (get_or words j 0) ≡ free_bit n x j

-- sequence x is one before which none makes the root true, and the words begin with its free bits
pub record FloorLeft (n : ℕ) (gs : List Pair) (root x : ℕ) (words : List ℕ) : Type 0 where
  pub place : x < 2 ^ n
  pub none : NoneBelow n gs root x
  pub bits : (j : ℕ) → j < n → nonzero (get_or words j 0) ≡ free_bit n x j

abbrev pub SolvedIs : ℕ → List Pair → ℕ → List ℕ → ℕ → List ℕ → Verdict → Type 0
SolvedIs n gs root work effort last Found = (solved n gs root (length work) effort ≡ Found) × ((x : ℕ) × FirstTrue n gs root x last)
SolvedIs n gs root work effort last (Clear used) = (solved n gs root (length work) effort ≡ Clear used) × NoneBelow n gs root (2 ^ n)
SolvedIs n gs root work effort last Out =
    (solved n gs root (length work) effort ≡ Out) × FloorLeft n gs root (solved_floor n gs root (length work) effort) last
