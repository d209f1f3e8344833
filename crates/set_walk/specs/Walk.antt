-- The walk from a start state to the first hit, by the sets of a table. Assumes nothing.
use Rattle.std.specs.Prelude.{◌≡◌, Bool, true, false, List, ℕ, zero, suc, ◌+◌, ◌*◌, ◌/◌, ◌≤◌, ◌<◌, length, get_or}
use Rattle.std.proofs.Math.Option.{some}
use Rattle.aiger.specs.Bits.{nonzero}
use Rattle.aiger.specs.Search.{least_below}
use Rattle.diagrams.specs.States.{state_of}
use Rattle.diagrams.specs.declared.Vertex.{Vertex}
use Rattle.diagrams.specs.Meaning.{Assignment, value, Built, In}
use Rattle.machine.specs.Machine.{Machine, prefixes, hits_at}
use Rattle.machine.proofs.Theorems.{QuietBefore}
use Rattle.backward.specs.Sets.{Inside}
use Rattle.backward.specs.Walk.{Walking}
use Rattle.state_sets.specs.declared.Shape.{Shape}
use Rattle.state_sets.specs.Sets.{sets_of}
use Rattle.state_sets.specs.Meaning.{Values, values_of, Coded, leads_to, row_value, Held}

-- words as an assignment: a variable is true where its word is not 0
unfoldable pub bits_of : List ℕ → Assignment
bits_of bits v = nonzero (get_or bits v 0)

-- a diagram in words, and a table of its edges
pub record Legible (w table : List ℕ) : Type 0 where
  pub built : Built (state_of w).nodes
  pub edges : (i : ℕ) → In (state_of w).nodes (get_or table i 0)

-- the values of the table in its diagram
abbrev pub values_in : List ℕ → List ℕ → Values
values_in w table = values_of (state_of w).nodes table

-- r has the value of e, and leads to an earlier node or is a constant
pub record Followed (ns : List Vertex) (x : Assignment) (e r : ℕ) : Type 0 where
  pub same : value ns x r ≡ value ns x e
  pub lower : r / 2 < e / 2

-- the words `after` are where row r leads from the words `bits`
abbrev pub Moved : List ℕ → List ℕ → ℕ → ℕ → List ℕ → List ℕ → Type 0
Moved w table vars r bits after = bits_of after ≡ leads_to (values_in w table) vars r (bits_of bits)

-- whether row r leads on from `bits`, with `next` frames to go, and where it leads
pub record Leads (w table : List ℕ) (vars next r : ℕ) (bits after : List ℕ) (answer : Bool) : Type 0 where
  pub on : answer ≡ row_value (values_in w table) vars next r (bits_of bits)
  pub moved : (next ≡ 0 → ⊥) → answer ≡ true → Moved w table vars r bits after

-- the least row that leads on from `bits`, or the number of rows, and where it leads
pub record LeastRow (w table : List ℕ) (vars rows next : ℕ) (bits after : List ℕ) (r : ℕ) : Type 0 where
  pub most : r ≤ rows
  pub before : (k : ℕ) → k < r → row_value (values_in w table) vars next k (bits_of bits) ≡ false
  pub on : r < rows → row_value (values_in w table) vars next r (bits_of bits) ≡ true
  pub moved : r < rows → (next ≡ 0 → ⊥) → Moved w table vars r bits after

-- the prefix of f frames with start place y and the rows of a trace, where `first` says which row of the machine a row of the table is
unfoldable pub prefix_by : Machine → (ℕ → ℕ) → ℕ → List ℕ → ℕ → ℕ
prefix_by m first y trace zero = y
prefix_by m first y trace (suc f) = prefix_by m first y trace f * m.rows + first (get_or trace f 0)

-- the sets up to t of a machine, in a diagram and its table; no frame before t has a hit
pub record Setting (level : ℕ) (m : Machine) (n : ℕ) (at : ℕ → Assignment) (s : Shape) (t : ℕ) (w table : List ℕ) : Type 0 where
  pub inside : Inside m n
  pub coded : Coded at s.vars
  pub held : Held level m n at s.vars s.rows (suc t) 0 (sets_of w table)
  pub quiet : QuietBefore m t

-- the row of the machine that row k of the table is
abbrev pub first_of : {level : ℕ} {m : Machine} {n : ℕ} {at : ℕ → Assignment} {s : Shape} {t : ℕ} {w table : List ℕ}
    → Setting level m n at s t w table → ℕ → ℕ
first_of g k = g.held.standing.rows-of.first k

-- after f frames the walk from start place y is at the state in `bits`, and the rows of its frames are in the trace
pub record Walked {level : ℕ} {m : Machine} {n : ℕ} {at : ℕ → Assignment} {s : Shape} {t : ℕ} {w table : List ℕ}
    (g : Setting level m n at s t w table) (y f : ℕ) (bits trace : List ℕ) : Type 0 where
  pub state : ℕ
  pub walking : Walking m t 0 f (prefix_by m (first_of g) y trace f) state
  pub here : bits_of bits ≡ at state
  pub fits : (u : ℕ) → u < f → get_or trace u 0 < s.rows

-- the trace has the rows of the first hit of frame t
pub record Ended {level : ℕ} {m : Machine} {n : ℕ} {at : ℕ → Assignment} {s : Shape} {t : ℕ} {w table : List ℕ}
    (g : Setting level m n at s t w table) (y : ℕ) (trace : List ℕ) (answer : Bool) : Type 0 where
  pub done : answer ≡ true
  pub first : least_below (prefixes m (suc t)) (hits_at m t) ≡ some (prefix_by m (first_of g) y trace (suc t))
  pub fits : (u : ℕ) → u ≤ t → get_or trace u 0 < s.rows
