-- What the searches for an edge answer. Assumes nothing.
use Rattle.std.specs.Prelude.{Option, Some, None, ℕ, ◌+◌}
use Rattle.nodes.specs.Edges.{edge_word}
use Rattle.nodes.specs.declared.Edge.{Edge}

-- one more than the word of the edge; 0 for none
abbrev pub place_of : Option Edge → ℕ
place_of (Some e) = edge_word e + 1
place_of None = 0
