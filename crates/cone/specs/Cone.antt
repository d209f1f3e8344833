-- The gates of a graph that lead to a root edge, their numbers, and the circuit that they make. Assumes nothing.
use Rattle.std.specs.Prelude.{Bool, cond, ◌&&◌, ◌||◌, ◌⊎◌, List, [], ◌∷◌, ◌++◌, map, ℕ, zero, suc, ◌+◌, ◌-◌, ◌*◌, ◌%◌, ◌≤◌, T, leb, eqb, length}
use Rattle.aiger.specs.Lists.{upto}
use Rattle.aiger.specs.Circuit.{Circuit, Gate}
use Rattle.nodes.specs.Graph.{node_of, Pair, pair_at}

-- k is the node of an operand
unfoldable pub operand_of : Pair → ℕ → Bool
operand_of p k = eqb k (node_of p.left) || eqb k (node_of p.right)

-- node k is marked once the s gates from gate j on are passed, the last one first: the root's node is marked at the start, and a
-- gate that is marked when it is passed marks the nodes of its operands
unfoldable pub marked : ℕ → List Pair → ℕ → ℕ → ℕ → ℕ → Bool
marked n gs root zero j k = eqb k (node_of root)
marked n gs root (suc s) j k = marked n gs root s (j + 1) k || (marked n gs root s (j + 1) (n + 1 + j) && operand_of (pair_at gs j) k)

-- node k leads to the root
unfoldable pub in_cone : ℕ → List Pair → ℕ → ℕ → Bool
in_cone n gs root k = marked n gs root (length gs) 0 k

-- how many of the first j gates are kept
unfoldable pub kept_before : ℕ → List Pair → ℕ → ℕ → ℕ
kept_before n gs root zero = 0
kept_before n gs root (suc j) = kept_before n gs root j + cond (in_cone n gs root (n + 1 + j)) 1 0

-- the variable of a node: the constant and the free bits keep their numbers, and the kept gates are numbered from n + 1 on
unfoldable pub number : ℕ → List Pair → ℕ → ℕ → ℕ
number n gs root k = cond (leb k n) k (n + 1 + kept_before n gs root (k - (n + 1)))

-- a node that has a number: the constant, a free bit, or a gate that is kept
abbrev pub Numbered : ℕ → List Pair → ℕ → ℕ → Type 0
Numbered n gs root k = (k ≤ n) ⊎ T (in_cone n gs root k)

-- the literal of an edge
unfoldable pub renumbered : ℕ → List Pair → ℕ → ℕ → ℕ
renumbered n gs root e = 2 * number n gs root (node_of e) + e % 2

-- gate j of the graph as a gate of the circuit
unfoldable pub kept_gate : ℕ → List Pair → ℕ → ℕ → Gate
kept_gate n gs root j =
    record {
      lit = 2 * number n gs root (n + 1 + j);
      left = renumbered n gs root (pair_at gs j).left;
      right = renumbered n gs root (pair_at gs j).right;
    }

-- those of the first j gates that are kept
unfoldable pub kept_gates : ℕ → List Pair → ℕ → ℕ → List Gate
kept_gates n gs root zero = []
kept_gates n gs root (suc j) = kept_gates n gs root j ++ cond (in_cone n gs root (n + 1 + j)) (kept_gate n gs root j ∷ []) []

-- the circuit of the gates that lead to the root, which is its output
unfoldable pub folded : ℕ → List Pair → ℕ → Circuit
folded n gs root =
    record {
      max_var = n + kept_before n gs root (length gs);
      inputs = map (λ j. 2 * (j + 1)) (upto n);
      latches = [];
      outputs = renumbered n gs root root ∷ [];
      bads = [];
      constraints = [];
      gates = kept_gates n gs root (length gs);
    }
