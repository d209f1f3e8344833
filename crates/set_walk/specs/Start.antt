-- The least start state of a set: for each free latch in file order 0 where that leaves a start state, else 1. Assumes nothing.
use Rattle.std.specs.Prelude.{◌≡◌, Bool, true, false, cond, List, [], ◌∷◌, ℕ, ◌^◌, ◌≤◌, ◌<◌, T, ltb, eqb, length, get_or, set}
use Rattle.std.proofs.Math.Option.{Option, none, some}
use Rattle.aiger.specs.Bits.{nonzero}
use Rattle.aiger.specs.Frames.{free_bit}
use Rattle.machine.specs.Machine.{Machine}
use Rattle.diagrams.specs.Meaning.{Assignment, value}
use Rattle.diagrams.specs.Words.{flip}
use Rattle.diagrams.specs.States.{State, Outcome, state_of, edge_of, Made, and_then, made}
use Rattle.conjunction.specs.Conjunction.{both}
use Rattle.state_sets.specs.Sets.{starts_in}
use Rattle.set_walk.specs.declared.Start.{Start}
use Rattle.set_walk.specs.declared.Start.TheVariants as variants
use Rattle.set_walk.specs.Walk.{bits_of}

-- a diagram, an edge unless it is full, and a state in words
pub record Picked : Type 0 where
  pub state : State
  pub edge : Option ℕ
  pub bits : List ℕ

abbrev pub picked : State → Option ℕ → List ℕ → Picked
picked s e bits = record { state = s; edge = e; bits = bits }

-- what words, answer and the words of the state stand for
abbrev pub leaves : List ℕ → Made → List ℕ → Picked
leaves w r bits = picked (state_of w) (edge_of r) bits

-- the states of e in which variable v is false
unfoldable pub without : ℕ → ℕ → State → Outcome
without e v s = and_then (made s v 0 1) (λ t x. both t e (flip x 1))

-- with d the states of e in which v is false: these where there are some, else v is true
abbrev pub pick_in : ℕ → ℕ → List ℕ → State → Option ℕ → Picked
pick_in e v bits s none = picked s none bits
pick_in e v bits s (some d) = cond (eqb d 0) (picked s (some e) (set bits v 1)) (picked s (some d) bits)

abbrev pub pick_from : ℕ → ℕ → List ℕ → Outcome → Picked
pick_from e v bits o = pick_in e v bits o.state o.edge

-- the value of a latch that has no variable is 0
unfoldable pub pick_one : ℕ → ℕ → List ℕ → State → Picked
pick_one e v bits s = cond (ltb v (length bits)) (pick_from e v bits (without e v s)) (picked s (some e) bits)

-- what follows where there is an edge
abbrev pub on_picked : Option ℕ → State → List ℕ → (State → ℕ → List ℕ → Picked) → Picked
on_picked none s bits k = picked s none bits
on_picked (some e) s bits k = k s e bits

abbrev pub pick_then : Picked → (State → ℕ → List ℕ → Picked) → Picked
pick_then p k = on_picked p.edge p.state p.bits k

-- all of the latches, one after the other
unfoldable pub pick_all : List ℕ → State → ℕ → List ℕ → Picked
pick_all [] s e bits = picked s (some e) bits
pick_all (v ∷ vs) s e bits = pick_then (pick_one e v bits s) (pick_all vs)

-- ---- a set and its start states

-- a diagram, what was found, and a state in words
pub record Sought : Type 0 where
  pub state : State
  pub found : Start
  pub bits : List ℕ

abbrev pub sought : State → Start → List ℕ → Sought
sought s found bits = record { state = s; found = found; bits = bits }

-- the values of the free latches are a start state, where this is one of set t; else it is not known
abbrev pub tested : ℕ → List ℕ → State → List ℕ → Sought
tested t table s bits = sought s (cond (value s.nodes (bits_of bits) (get_or table t 0)) variants.Least variants.Full) bits

abbrev pub tested_in : ℕ → List ℕ → State → List ℕ → Option ℕ → Sought
tested_in t table s bits none = sought s variants.Full bits
tested_in t table s bits (some e) = tested t table s bits

abbrev pub test_picked : ℕ → List ℕ → Picked → Sought
test_picked t table p = tested_in t table p.state p.bits p.edge

-- with e the start states of set t
abbrev pub seek_in : ℕ → List ℕ → List ℕ → List ℕ → State → Option ℕ → Sought
seek_in t frees table bits s none = sought s variants.Full bits
seek_in t frees table bits s (some e) = cond (eqb e 0) (sought s variants.Nowhere bits) (test_picked t table (pick_all frees s e bits))

abbrev pub seek_from : ℕ → List ℕ → List ℕ → List ℕ → Outcome → Sought
seek_from t frees table bits o = seek_in t frees table bits o.state o.edge

-- the least start state of set t, where the others begin with the values in bits
unfoldable pub seek : ℕ → ℕ → ℕ → List ℕ → List ℕ → List ℕ → State → Sought
seek vars rows t frees table bits s = seek_from t frees table bits (starts_in vars rows t table s)

-- The start states of a machine as assignments of so many variables: start place y gives the free latches its bits, in their order, and the
-- other variables have their words of `base`. The list has the variable of each free latch, or a number past the variables.
pub record StartsOf (m : Machine) (at : ℕ → Assignment) (vars : ℕ) (frees base : List ℕ) : Type 0 where
  pub places : m.starts ≡ 2 ^ length frees
  pub wide : length base ≡ vars
  pub past : (s v : ℕ) → vars ≤ v → at s v ≡ false
  pub clear : (u : ℕ) → u < length frees → get_or frees u 0 < vars → get_or base (get_or frees u 0) 0 ≡ 0
  pub apart : (u i : ℕ) → u < length frees → i < length frees → get_or frees u 0 < vars → get_or frees u 0 ≡ get_or frees i 0 → u ≡ i
  pub free : (y u : ℕ) → y < m.starts → u < length frees → get_or frees u 0 < vars
      → at (m.start y) (get_or frees u 0) ≡ free_bit (length frees) y u
  pub fixed : (y v : ℕ) → y < m.starts → v < vars → ((u : ℕ) → u < length frees → get_or frees u 0 ≡ v → ⊥)
      → at (m.start y) v ≡ nonzero (get_or base v 0)

-- bits are the state of the first start place, where it is one of these at all: no start place before it is; its free bits are those of the
-- state, and 0 for the latches without a variable
pub record LeastStart (m : Machine) (at : ℕ → Assignment) (frees : List ℕ) (p : ℕ → Bool) (bits : List ℕ) : Type 0 where
  pub place : ℕ
  pub fits : place < m.starts
  pub here : bits_of bits ≡ at (m.start place)
  pub first : (y : ℕ) → y < place → T (p y) → ⊥
  pub free : (u : ℕ) → u < length frees → free_bit (length frees) place u ≡ bits_of bits (get_or frees u 0)
