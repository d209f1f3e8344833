-- The text of a folded circuit by the words of working memory, where word 10 of a node's record is its number. Assumes nothing.
use Rattle.std.specs.Prelude.{◌≡◌, cond, List, [], ◌∷◌, ◌++◌, ℕ, zero, suc, ◌+◌, ◌*◌, ◌≤◌, ◌<◌, eqb, length}
use Rattle.aiger.specs.Text.{bytes}
use Rattle.aiger.specs.Circuit.{Circuit}
use Rattle.aiger.specs.Write.{line_of}
use Rattle.aiger.specs.Operations.{front}
use Rattle.literals.specs.Literal.{signed, word_of}
use Rattle.literals.specs.declared.Lit.{Lit}
use Rattle.nodes.specs.Graph.{node_of, Built}
use Rattle.nodes.specs.Store.{field, pairs_of, Sized}
use Rattle.nodes.specs.Edges.{word_edge}
use Rattle.nodes.specs.declared.Graph.{Graph}
use Rattle.nodes.specs.declared.Edge.{Edge}
use Rattle.cone.specs.Cone.{folded}
use Rattle.cone.specs.Store.{Assigned}

-- the literal of an edge: its variable is the number of the edge's node
abbrev pub literal_of : List ℕ → Edge → Lit
literal_of work e = signed (field work e.0.0 10) e.1

-- the word of the literal of the edge whose word is w
abbrev pub literal_word : List ℕ → ℕ → ℕ
literal_word work w = word_of (literal_of work (word_edge w))

-- the line of the gate at node k, if it has a number
abbrev pub gate_text : List ℕ → ℕ → List ℕ
gate_text work k =
    cond (eqb (field work k 10) 0) []
    (line_of (2 * field work k 10) (literal_word work (field work k 0) ∷ literal_word work (field work k 1) ∷ []))

-- the lines of j gates from node `first` on
unfoldable pub gates_text : List ℕ → ℕ → ℕ → List ℕ
gates_text work first zero = []
gates_text work first (suc j) = gates_text work first j ++ gate_text work (first + j)

-- the lines of the first j inputs
unfoldable pub inputs_text : ℕ → List ℕ
inputs_text zero = []
inputs_text (suc j) = inputs_text j ++ line_of (2 * (j + 1)) []

-- the header's line, where there are n inputs and so many gates
abbrev pub head_text : ℕ → ℕ → List ℕ
head_text n gates = bytes "aag " ++ line_of (n + gates) (n ∷ 0 ∷ 1 ∷ gates ∷ 0 ∷ 0 ∷ [])

-- a node of the memory with a number below 65,536
pub record NodeFits (work : List ℕ) (k : ℕ) : Type 0 where
  pub held : 16 * k + 16 ≤ length work
  pub small : field work k 10 < 65536

-- a gate of the memory whose operands are nodes of it
pub record GateFits (work : List ℕ) (k : ℕ) : Type 0 where
  pub node : NodeFits work k
  pub left : NodeFits work (node_of (field work k 0))
  pub right : NodeFits work (node_of (field work k 1))

-- all gates of the graph
pub record GatesFit (work : List ℕ) (g : Graph) : Type 0 where
  pub sized : Sized g (length work)
  pub each : (k : ℕ) → g.free < k → k < g.nodes → GateFits work k

-- the circuit of the cone of the root
abbrev pub folded_in : List ℕ → Graph → ℕ → Circuit
folded_in work g root = folded g.free (pairs_of work g) root

-- a graph whose kept gates are numbered
pub record Writable (work : List ℕ) (g : Graph) (root kept : ℕ) : Type 0 where
  pub sized : Sized g (length work)
  pub built : Built g.free (pairs_of work g)
  pub inside : node_of root < g.nodes
  pub assigned : Assigned (pairs_of work g) work g root kept

-- the text is at the front of the output, and r is its length
pub record Shown (text out : List ℕ) (r : ℕ) (last : List ℕ) : Type 0 where
  pub count : r ≡ length text
  pub contents : last ≡ front text out
