-- Which edge is the conjunction of two edges: a function of the graph's gates and the two edges. Assumes nothing.
use Rattle.std.specs.Prelude.{Bool, cond, ◌&&◌, List, [], ◌∷◌, ◌++◌, ℕ, ◌+◌, ◌*◌, ◌^◌, max, min, leb, eqb, length}
use Rattle.std.specs.Bool.{beq}
use Rattle.std.proofs.Math.Option.{Option, none, some}
use Rattle.aiger.specs.Lists.{every_below, last_below}
use Rattle.nodes.specs.Graph.{Pair, nodes, pair_at}
use Rattle.signatures.specs.Twin.{edge_under, both_under}
use Rattle.rules.specs.Rules.{simplified}

-- the gates of a graph, and an edge of it
pub record Outcome : Type 0 where
  pub gates : List Pair
  pub edge : ℕ

-- gate i has these operands
unfoldable pub has_operands : List Pair → ℕ → ℕ → ℕ → Bool
has_operands gs left right i = eqb (pair_at gs i).left left && eqb (pair_at gs i).right right

-- edge e is equal in function to the conjunction of left and right: all sequences are tried
unfoldable pub is_twin : ℕ → List Pair → ℕ → ℕ → ℕ → Bool
is_twin n gs left right e = every_below (2 ^ n) (λ x. beq (edge_under n gs e x) (both_under n gs left right x))

-- the edge that is equal in function, with twelve free bits or fewer (Clause 5.9: above twelve no merge by function is made)
unfoldable pub twin_of : ℕ → List Pair → ℕ → ℕ → Option ℕ
twin_of n gs left right = cond (leb n 12) (last_below (is_twin n gs left right) (2 * nodes n gs)) none

-- the edge that is named, or a new gate with these operands
abbrev pub or_added : ℕ → List Pair → ℕ → ℕ → Option ℕ → Outcome
or_added n gs left right none = record { gates = gs ++ (record { left = left; right = right } ∷ []); edge = 2 * nodes n gs }
or_added n gs left right (some e) = record { gates = gs; edge = e }

-- the gate that is named, or else an edge that is equal in function, or a new gate
abbrev pub or_merged : ℕ → List Pair → ℕ → ℕ → Option ℕ → Outcome
or_merged n gs left right none = or_added n gs left right (twin_of n gs left right)
or_merged n gs left right (some i) = record { gates = gs; edge = 2 * (n + 1 + i) }

-- the edge that a rule says, or else the gate with these operands, or what is made where there is none
abbrev pub or_made : ℕ → List Pair → ℕ → ℕ → Option ℕ → Outcome
or_made n gs left right (some e) = record { gates = gs; edge = e }
or_made n gs left right none = or_merged n gs left right (last_below (has_operands gs left right) (length gs))

-- the conjunction of edges a and b in the graph over n free bits whose gates are gs
unfoldable pub conjoin : ℕ → List Pair → ℕ → ℕ → Outcome
conjoin n gs a b = or_made n gs (max a b) (min a b) (simplified n gs (max a b) (min a b))
