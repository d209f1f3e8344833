-- Edges and their words. Assumes nothing.
use Rattle.std.specs.Prelude.{Bool, not, cond, ℕ, ◌+◌, ◌*◌}
use Rattle.aiger.specs.Bits.{odd}
use Rattle.nodes.specs.Graph.{node_of}
use Rattle.nodes.specs.declared.Edge.{Edge}

-- the edge to a node, or to its complement where the sign is true
abbrev pub edge_of : ℕ → Bool → Edge
edge_of k b = record { 0 = record { 0 = k }; 1 = b }

-- the edge that a word stands for
abbrev pub word_edge : ℕ → Edge
word_edge w = edge_of (node_of w) (odd w)

-- 2k is node k and 2k + 1 its complement
abbrev pub edge_word : Edge → ℕ
edge_word e = 2 * e.0.0 + cond e.1 1 0

abbrev pub opposite : Edge → Edge
opposite e = edge_of e.0.0 (not e.1)
