-- The gates of a circuit under a row of inputs as edges of a diagram. A map has a word for each variable: its edge, or `absent`.
-- Assumes nothing.
use Rattle.std.specs.Prelude.{◌≡◌, Bool, true, false, not, cond, List, [], ◌∷◌, ◌++◌, map, ℕ, ◌+◌, ◌/◌, ◌%◌, ◌^◌, eqb, ltb, length, get_or, set, replicate, take, drop}
use Rattle.std.proofs.Math.Option.{Option, none, some}
use Rattle.aiger.specs.Lists.{every}
use Rattle.aiger.specs.Circuit.{Circuit, Gate}
use Rattle.literals.specs.Literal.{literal}
use Rattle.literals.specs.declared.Lit.{Lit}
use Rattle.layout.specs.Words.{word}
use Rattle.meaning.specs.Frame.{input_at, latch_at, gate_at}
use Rattle.diagrams.specs.Words.{flip}
use Rattle.diagrams.specs.States.{State, Outcome, state_of, outcome, and_then, made}
use Rattle.conjunction.specs.Conjunction.{both}

-- ---- maps

-- the word of a variable that has no edge
abbrev pub absent : ℕ
absent = 4294967295

-- the variable of a literal has an edge
abbrev pub is_present : List ℕ → Lit → Bool
is_present m l = not (eqb (get_or m l.0.0 absent) absent)

-- the edge of a literal, where its variable has one
abbrev pub edge_in : List ℕ → Lit → ℕ
edge_in m l = cond l.1 (flip (get_or m l.0.0 absent) 1) (get_or m l.0.0 absent)

-- a diagram and words, unless the diagram is full or an edge is absent
pub record Filled : Type 0 where
  pub state : State
  pub words : Option (List ℕ)

abbrev pub filled : State → Option (List ℕ) → Filled
filled s ws = record { state = s; words = ws }

-- what follows where there are words
abbrev pub on_words : Option (List ℕ) → State → (State → List ℕ → Filled) → Filled
on_words none s k = filled s none
on_words (some ws) s k = k s ws

abbrev pub fill_then : Filled → (State → List ℕ → Filled) → Filled
fill_then o k = on_words o.words o.state k

-- what follows where there is an edge
abbrev pub on_made : Option ℕ → State → (State → ℕ → Filled) → Filled
on_made none s k = filled s none
on_made (some e) s k = k s e

abbrev pub fill_from : Outcome → (State → ℕ → Filled) → Filled
fill_from o k = on_made o.edge o.state k

-- the words that are left where the answer is true
abbrev pub words_of : Bool → List ℕ → Option (List ℕ)
words_of true ws = some ws
words_of false ws = none

-- what a function with a diagram and words leaves
abbrev pub leaves : List ℕ → List ℕ → Bool → Filled
leaves w ws r = filled (state_of w) (words_of r ws)

-- the map with an edge for variable v, if there is one
abbrev pub noted : Option ℕ → ℕ → List ℕ → Option (List ℕ)
noted none v m = none
noted (some e) v m = some (set m v e)

-- the same of what was made
abbrev pub noted_in : Outcome → ℕ → List ℕ → Filled
noted_in o v m = filled o.state (noted o.edge v m)

-- ---- a row

-- the literals of latches, inputs and gates that are given by their places in the file
abbrev pub latch_literal : Circuit → ℕ → Lit
latch_literal c j = literal (latch_at c j).lit

abbrev pub next_literal : Circuit → ℕ → Lit
next_literal c j = literal (latch_at c j).next

-- the latches from variable v on have the edges of their variables
unfoldable pub latches_put : Circuit → ℕ → List ℕ → State → List ℕ → Filled
latches_put c v [] s m = filled s (some m)
latches_put c v (j ∷ js) s m = fill_then (noted_in (made s v 0 1) (latch_literal c j).0.0 m) (latches_put c (v + 1) js)

-- the inputs have the bits of r, the last input the least significant one
unfoldable pub bits_put : Circuit → ℕ → List ℕ → List ℕ → List ℕ
bits_put c r [] m = m
bits_put c r (i ∷ is) m = set (bits_put c r is m) (literal (input_at c i)).0.0 (r / 2 ^ length is % 2)

-- variable v has the conjunction of two literals
unfoldable pub gate_put : ℕ → Lit → Lit → State → List ℕ → Filled
gate_put v x y s m =
    cond (is_present m x) (cond (is_present m y) (noted_in (both s (edge_in m x) (edge_in m y)) v m) (filled s none)) (filled s none)

-- a gate's variable has the conjunction of its operands
abbrev pub gate_put_in : Gate → State → List ℕ → Filled
gate_put_in g s m = gate_put (literal g.lit).0.0 (literal g.left) (literal g.right) s m

-- the same of gates, one after the other
unfoldable pub gates_put : Circuit → List ℕ → State → List ℕ → Filled
gates_put c [] s m = filled s (some m)
gates_put c (g ∷ gs) s m = fill_then (gate_put_in (gate_at c g) s m) (gates_put c gs)

-- the conjunction of an edge and a literal
unfoldable pub with_literal : List ℕ → Lit → State → ℕ → Outcome
with_literal m l s e = cond (is_present m l) (both s e (edge_in m l)) (outcome s none)

-- the conjunction of an edge and literals
unfoldable pub with_literals : List ℕ → List ℕ → State → ℕ → Outcome
with_literals m [] s e = outcome s (some e)
with_literals m (l ∷ ls) s e = and_then (with_literal m (literal l) s e) (with_literals m ls)

-- the edges of the latches' next literals, the constraints and the hit
unfoldable pub row_words : Circuit → List ℕ → List ℕ → ℕ → ℕ → Option (List ℕ)
row_words c js m con hit =
    cond (every (λ j. is_present m (next_literal c j)) js) (some (map (λ j. edge_in m (next_literal c j)) js ++ (con ∷ hit ∷ []))) none

-- the row where every gate has its edge
unfoldable pub row_end : Circuit → ℕ → List ℕ → State → List ℕ → Filled
row_end c b js s m =
    fill_from (with_literals m c.constraints s 1)
    (λ t con. fill_from (with_literal m (literal (get_or c.bads b 0)) t con) (λ u hit. filled u (row_words c js m con hit)))

-- which latches are variables of the diagram, in their order, which inputs matter, and which gates, each after those of its operands: by
-- their places in the file
pub record Plan : Type 0 where
  pub latches : List ℕ
  pub inputs : List ℕ
  pub gates : List ℕ

-- the map of a frame before its gates: variable 0 is false
abbrev pub blank : List ℕ
blank = set (replicate 4097 absent) 0 0

-- row r of the inputs that matter
unfoldable pub row_made : Circuit → ℕ → Plan → ℕ → State → Filled
row_made c b p r s =
    fill_then (latches_put c 0 p.latches s (bits_put c r p.inputs blank))
    (λ t m. fill_then (gates_put c p.gates t m) (row_end c b p.latches))

-- ---- in words

-- what is left is that outcome, and words that are not made stay
pub record Written (w before after : List ℕ) (r : Bool) (o : Filled) : Type 0 where
  pub left : leaves w after r ≡ o
  pub stays : r ≡ false → after ≡ before

-- a plan in words: how many latches, inputs and gates there are, and then these
abbrev pub plan_of : List ℕ → Plan
plan_of w =
    record {
      latches = take (word w 0) (drop 3 w);
      inputs = take (word w 1) (drop (3 + word w 0) w);
      gates = take (word w 2) (drop (3 + word w 0 + word w 1) w);
    }

-- the words that it takes
abbrev pub plan_length : List ℕ → ℕ
plan_length w = 3 + word w 0 + word w 1 + word w 2

-- the row of a plan in words, all of which are there
unfoldable pub row_in : Circuit → ℕ → List ℕ → ℕ → State → Filled
row_in c b w r s = cond (ltb (length w) (plan_length w)) (filled s none) (row_made c b (plan_of w) r s)
