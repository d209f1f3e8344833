-- Graphs over n free bits: node 0 is false, node j + 1 is free bit j, and node n + 1 + i is gate i. A gate is a pair of edges. Edge 2k
-- is node k and edge 2k + 1 its complement, as with a circuit's literals. Assumes nothing.
use Rattle.std.specs.Prelude.{◌≡◌, Bool, false, not, cond, ◌&&◌, List, [], ◌∷◌, ◌++◌, map, ℕ, ◌+◌, ◌-◌, ◌*◌, ◌/◌, ◌≤◌, ◌<◌, ◌^◌, leb, length, get_or}
use Rattle.aiger.specs.Lists.{upto}
use Rattle.aiger.specs.Bits.{odd}
use Rattle.aiger.specs.Frames.{free_bit}
use Rattle.aiger.specs.Fold.{repeated}

-- the node of the edge whose word is w
abbrev pub node_of : ℕ → ℕ
node_of w = w / 2

-- the value of the edge whose word is w, where node k has the value v k
abbrev pub edge_by : (ℕ → Bool) → ℕ → Bool
edge_by v w = cond (odd w) (not (v (node_of w))) (v (node_of w))

-- the larger operand stands on the left
pub record Pair : Type 0 where
  pub left : ℕ
  pub right : ℕ

-- the values of the constant and of the free bits, where free bit j has value f j
unfoldable pub leaves : ℕ → (ℕ → Bool) → List Bool
leaves n f = false ∷ map f (upto n)

-- the value of an edge, where the nodes have the values vs
abbrev pub edge_in : List Bool → ℕ → Bool
edge_in vs e = edge_by (λ k. get_or vs k false) e

-- the values of all nodes: each gate in turn is true exactly when both its operands are
unfoldable pub grown : List Bool → List Pair → List Bool
grown vs [] = vs
grown vs (g ∷ gs) = grown (vs ++ ((edge_in vs g.left && edge_in vs g.right) ∷ [])) gs

unfoldable pub node_values : ℕ → List Pair → (ℕ → Bool) → List Bool
node_values n gs f = grown (leaves n f) gs

-- the value of edge e of the graph, where free bit j has value f j
abbrev pub edge_value : ℕ → List Pair → (ℕ → Bool) → ℕ → Bool
edge_value n gs f e = edge_in (node_values n gs f) e

-- how many nodes there are
abbrev pub nodes : ℕ → List Pair → ℕ
nodes n gs = n + 1 + length gs

abbrev pub no_pair : Pair
no_pair = record { left = 0; right = 0 }

abbrev pub pair_at : List Pair → ℕ → Pair
pair_at gs i = get_or gs i no_pair

-- edges are equal in function, or opposite, over all sequences
abbrev pub Equal : ℕ → List Pair → ℕ → ℕ → Type 0
Equal n gs d e = (x : ℕ) → x < 2 ^ n → edge_value n gs (free_bit n x) d ≡ edge_value n gs (free_bit n x) e

abbrev pub Opposite : ℕ → List Pair → ℕ → ℕ → Type 0
Opposite n gs d e = (x : ℕ) → x < 2 ^ n → edge_value n gs (free_bit n x) d ≡ not (edge_value n gs (free_bit n x) e)

-- the right operand is repeated one gate down, where the left one is a gate: the right one is an earlier node, and never has the left one
-- below it
unfoldable pub deep : ℕ → List Pair → ℕ → ℕ → Bool
deep n gs left right =
    leb (n + 1) (node_of left) && repeated (pair_at gs (node_of left - (n + 1))).left (pair_at gs (node_of left - (n + 1))).right left right

-- what holds of every graph that is built
pub record Built (n : ℕ) (gs : List Pair) : Type 0 where
  -- operands are defined earlier, the larger one first; none is constant, and they are neither equal nor opposite
  pub earlier : (i : ℕ) → i < length gs → node_of (pair_at gs i).left < n + 1 + i
  pub larger : (i : ℕ) → i < length gs → node_of (pair_at gs i).right < node_of (pair_at gs i).left
  pub nonconstant : (i : ℕ) → i < length gs → 2 ≤ (pair_at gs i).right
  -- no two gates have the same operands
  pub apart : (i j : ℕ) → i < length gs → j < i → (pair_at gs i).left ≡ (pair_at gs j).left → (pair_at gs i).right ≡ (pair_at gs j).right → ⊥
  -- no operand is repeated one gate down
  pub shallow : (i : ℕ) → i < length gs → deep n gs (pair_at gs i).left (pair_at gs i).right ≡ false
  -- with twelve free bits or fewer, no gate is equal or opposite in function to a node before it
  pub unequal : n ≤ 12 → (i : ℕ) → i < length gs → (k : ℕ) → k < n + 1 + i → Equal n gs (2 * k) (2 * (n + 1 + i)) → ⊥
  pub unopposite : n ≤ 12 → (i : ℕ) → i < length gs → (k : ℕ) → k < n + 1 + i → Opposite n gs (2 * k) (2 * (n + 1 + i)) → ⊥

-- e is an edge of the graph
abbrev pub InGraph : ℕ → List Pair → ℕ → Type 0
InGraph n gs e = node_of e < nodes n gs

-- hs is gs with at most one gate more
pub data Extends (gs : List Pair) : List Pair → Type 0 where
  same : Extends gs gs
  more : (p : Pair) → Extends gs (gs ++ (p ∷ []))
