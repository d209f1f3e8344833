-- What the search for a gate answers. Assumes nothing.
use Rattle.std.specs.Prelude.{Option, Some, None, ℕ, ◌+◌}
use Rattle.literals.specs.declared.Node.{Node}

-- one more than the node, as the words of a record have it; 0 for none
abbrev pub place_of : Option Node → ℕ
place_of (Some k) = k.0 + 1
place_of None = 0
