-- The rules by which a conjunction is an edge that is there already. Clauses 5.3 and 12.5. Assumes nothing.
use Rattle.std.specs.Prelude as prelude
use Rattle.std.specs.Prelude.{Some, None, not, cond, ◌&&◌, List, ℕ, ◌+◌, ◌-◌, ◌<◌, leb, eqb, length}
use Rattle.std.proofs.Math.Option.{Option, none, some}
use Rattle.aiger.specs.Bits.{odd}
use Rattle.aiger.specs.Fold.{complement, among}
use Rattle.nodes.specs.Graph.{node_of, Pair, pair_at}
use Rattle.nodes.specs.Edges.{edge_word}
use Rattle.nodes.specs.Store.{Sized}
use Rattle.nodes.specs.declared.Graph.{Graph}
use Rattle.nodes.specs.declared.Edge.{Edge}

-- the word of the edge that is known; none where a gate is needed
abbrev pub known : prelude.Option Edge → Option ℕ
known (Some e) = some (edge_word e)
known None = none

-- left is the larger operand: a constant operand, equal operands, and opposite operands, of which the conjunction is false
unfoldable pub basic : ℕ → ℕ → Option ℕ
basic left right =
    cond (eqb right 0) (some 0) (cond (eqb right 1) (some left)
    (cond (eqb left right) (some left) (cond (eqb (node_of left) (node_of right)) (some 0) none)))

-- the rules one gate down, where left is the edge of gate p: a with (not a and y) is false, a with not (not a and y) is a, and a with
-- (a and y) is (a and y)
unfoldable pub lowered : Pair → ℕ → ℕ → Option ℕ
lowered p left right =
    cond (among p.left p.right (complement right)) (cond (odd left) (some right) (some 0))
    (cond (not (odd left) && among p.left p.right right) (some left) none)

-- what a rule one gate down says, where left is a gate
abbrev pub below : ℕ → List Pair → ℕ → ℕ → Option ℕ
below n gs left right = cond (leb (n + 1) (node_of left)) (lowered (pair_at gs (node_of left - (n + 1))) left right) none

-- the rule that there is, or else what a rule one gate down says
abbrev pub or_lowered : ℕ → List Pair → ℕ → ℕ → Option ℕ → Option ℕ
or_lowered n gs left right (some e) = some e
or_lowered n gs left right none = below n gs left right

-- all rules, in the graph over n free bits whose gates are gs
unfoldable pub simplified : ℕ → List Pair → ℕ → ℕ → Option ℕ
simplified n gs left right = or_lowered n gs left right (basic left right)

-- where the rules of two operands may be asked: left is an edge of the graph
pub record Asked (work : List ℕ) (g : Graph) (left : ℕ) : Type 0 where
  pub sized : Sized g (length work)
  pub inside : node_of left < g.nodes
