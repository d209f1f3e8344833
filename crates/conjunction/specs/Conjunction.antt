-- What a conjunction leaves, as a function of the state. Assumes nothing.
use Rattle.std.specs.Prelude.{cond, List, ℕ, zero, suc, ◌/◌, ltb, eqb}
use Rattle.std.proofs.Math.Option.{none, some}
use Rattle.diagrams.specs.declared.Vertex.{Vertex}
use Rattle.std.specs.Prelude as code
use Rattle.std.specs.Prelude.{Ok}
use Rattle.diagrams.specs.Words.{node_at, flip}
use Rattle.diagrams.specs.States.{State, Outcome, outcome, and_then, Seen, looked_up, or_else, finished}
use Rattle.conjunction.specs.declared.Split.{Split}

unfoldable pub smaller : ℕ → ℕ → ℕ
smaller a b = cond (ltb a b) a b

unfoldable pub larger : ℕ → ℕ → ℕ
larger a b = cond (ltb a b) b a

-- where edge e of node n leads where variable v is false: along the node, if v is its variable
unfoldable pub low : Vertex → ℕ → ℕ → ℕ
low n v e = cond (eqb n.var v) (flip n.lo e) e

-- the same where v is true
unfoldable pub high : Vertex → ℕ → ℕ → ℕ
high n v e = cond (eqb n.var v) (flip n.hi e) e

abbrev pub split_at : ℕ → Vertex → Vertex → ℕ → ℕ → Split
split_at v p q f g = record { var = v; f0 = low p v f; g0 = low q v g; f1 = high p v f; g1 = high q v g }

-- the topmost variable of two edges, and where they lead for its two values
unfoldable pub split_of : List Vertex → ℕ → ℕ → Split
split_of ns f g =
    split_at (smaller (node_at ns (f / 2)).var (node_at ns (g / 2)).var) (node_at ns (f / 2)) (node_at ns (g / 2)) f g

-- what is known of two different edges in order without their nodes: constants, an edge and its complement, or what the cache has
unfoldable pub known : State → ℕ → ℕ → Seen
known s f g =
    cond (eqb f 1) (record { state = s; hint = Ok (code.Some g) })
    (cond (eqb f 0) (record { state = s; hint = Ok (code.Some 0) })
    (cond (eqb (f / 2) (g / 2)) (record { state = s; hint = Ok (code.Some 0) }) (looked_up s f g 0)))

-- a way to conjoin two edges
abbrev pub Way : Type 0
Way = State → ℕ → ℕ → Outcome

-- with the conjunctions of the cofactors made in the way `rec`
unfoldable pub from_cofactors : Way → State → ℕ → ℕ → Split → Outcome
from_cofactors rec s f g x =
    and_then (rec s x.f0 x.g0) (λ t lo. and_then (rec t x.f1 x.g1) (λ u hi. finished u x.var lo hi f g 0))

unfoldable pub turn : Way → Way
turn rec s f g = from_cofactors rec s f g (split_of s.nodes f g)

-- where nothing is known, as `next` says
unfoldable pub or_known : Way → Way
or_known next s f g = or_else (known s f g) (λ t. next t f g)

-- in order, and equal operands first
unfoldable pub in_order : Way → Way
in_order way s a b = cond (eqb a b) (outcome s (some a)) (way s (smaller a b) (larger a b))

abbrev pub no_turn : Way
no_turn s f g = outcome s none

-- the conjunction in so many nested turns
unfoldable pub both_within : ℕ → Way
both_within zero = in_order (or_known no_turn)
both_within (suc n) = in_order (or_known (turn (both_within n)))

-- the conjunction of f and g
unfoldable pub both : Way
both s f g = both_within 1280 s f g

-- the disjunction of f and g
unfoldable pub either : Way
either s f g = and_then (both s (flip f 1) (flip g 1)) (λ t e. outcome t (some (flip e 1)))
