-- What the functions of the code leave and answer, as functions of what the words stand for. Assumes nothing.
use Rattle.std.specs.Prelude.{Bool, cond, List, ℕ, zero, suc, ◌+◌, ◌/◌, ◌%◌, ltb, eqb, get_or}
use Rattle.std.proofs.Math.Option.{some, none}
use Rattle.diagrams.specs.declared.Vertex.{Vertex}
use Rattle.diagrams.specs.Words.{flip, node_at}
use Rattle.diagrams.specs.States.{State, Outcome, outcome, and_then, looked_up, or_else, remembered}
use Rattle.conjunction.specs.Conjunction.{both, either}

-- ---- if f then g else h

-- the arm g where f is true: 1 where it is f itself, 0 where it is the complement of f
unfoldable pub arm : ℕ → ℕ → ℕ
arm f g = cond (eqb g f) 1 (cond (eqb g (flip f 1)) 0 g)

-- (f and g) or (not f and h)
unfoldable pub whole : State → ℕ → ℕ → ℕ → Outcome
whole s f g h = and_then (both s f g) (λ t p. and_then (both t (flip f 1) h) (λ u q. either u p q))

-- one conjunction where an arm is constant
unfoldable pub of_arms : State → ℕ → ℕ → ℕ → Outcome
of_arms s f g h =
    cond (eqb g h) (outcome s (some g))
    (cond (eqb g 1) (either s f h)
    (cond (eqb g 0) (both s (flip f 1) h)
    (cond (eqb h 1) (either s (flip f 1) g) (cond (eqb h 0) (both s f g) (whole s f g h)))))

unfoldable pub choice : State → ℕ → ℕ → ℕ → Outcome
choice s f g h =
    cond (eqb g h) (outcome s (some g))
    (cond (eqb f 1) (outcome s (some g)) (cond (eqb f 0) (outcome s (some h)) (of_arms s f (arm f g) (arm (flip f 1) h))))

-- ---- edges in place of the variables

-- where edge e of node n leads where its variable is the constant x
unfoldable pub half : Vertex → ℕ → ℕ → ℕ
half n x e = cond (eqb x 0) (flip n.lo e) (flip n.hi e)

-- the operand by which the cache knows a vector
abbrev pub mark_of : ℕ → ℕ
mark_of tag = (tag + 1) % 4294967296

-- the complement of an answer where c is odd
abbrev pub complement_if : ℕ → Outcome → Outcome
complement_if c o = and_then o (λ t r. outcome t (some (flip r c)))

-- the choice by x of the results of both halves, kept as that of edge f
unfoldable pub finished_choice : State → ℕ → ℕ → ℕ → ℕ → ℕ → Outcome
finished_choice s x hi lo f tag = remembered (choice s x hi lo) f (mark_of tag) 1

-- a way to answer for one edge
abbrev pub Way : Type 0
Way = State → ℕ → Outcome

-- edge f of node n, no complement, with x in place of its variable
unfoldable pub from_halves : Way → ℕ → Vertex → ℕ → ℕ → State → Outcome
from_halves rec tag n x f s = and_then (rec s n.hi) (λ t hi. and_then (rec t n.lo) (λ u lo. finished_choice u x hi lo f tag))

-- edge e of node n with x in place of its variable: one half where x is constant, else what the cache has for it without its complement, or
-- what both halves give
unfoldable pub at_node : Way → ℕ → State → ℕ → Vertex → ℕ → Outcome
at_node rec tag s e n x =
    cond (ltb x 2) (rec s (half n x e))
    (complement_if e (or_else (looked_up s (flip e e) (mark_of tag) 1) (from_halves rec tag n x (flip e e))))

unfoldable pub turn : List ℕ → ℕ → Way → Way
turn by tag rec s e =
    at_node rec tag s e (node_at s.nodes (e / 2)) (get_or by (node_at s.nodes (e / 2)).var 0)

-- a constant stays
unfoldable pub or_constant : Way → Way
or_constant way s e = cond (ltb e 2) (outcome s (some e)) (way s e)

abbrev pub no_turn : Way
no_turn s e = outcome s none

unfoldable pub substituted_within : List ℕ → ℕ → ℕ → Way
substituted_within by tag zero = or_constant no_turn
substituted_within by tag (suc n) = or_constant (turn by tag (substituted_within by tag n))

-- edge e with the edge by[v] in place of each variable v
unfoldable pub substituted : List ℕ → ℕ → Way
substituted by tag s e = substituted_within by tag 1280 s e

-- ---- a vector of constants

-- the assignment that a vector of constants is
abbrev pub truth_of : List ℕ → ℕ → Bool
truth_of by v = eqb (get_or by v 0) 1

-- the edge that is constant
abbrev pub constant_of : Bool → ℕ
constant_of v = cond v 1 0
