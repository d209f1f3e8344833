-- What the stage by sets of states answers, and each of its attempts. Assumes nothing.
use Rattle.std.specs.Prelude.{◌≡◌, Bool, true, cond, ◌&&◌, List, ℕ, suc, ◌+◌, ◌*◌, ◌^◌, ◌≤◌, ◌<◌, leb, length, get_or, take}
use Rattle.std.proofs.Math.Option.{some}
use Rattle.std.proofs.lemmas.List.Edits.{sets}
use Rattle.aiger.specs.Bits.{nonzero}
use Rattle.aiger.specs.Circuit.{Circuit}
use Rattle.aiger.specs.Frames.{free_bits, size}
use Rattle.aiger.specs.Search.{least_below, question}
use Rattle.layout.specs.Words.{word, circuit_in}
use Rattle.layout.specs.Order.{depth_first}
use Rattle.enumeration.specs.Frame.{FreeBits}
use Rattle.machine.specs.Machine.{Machine, prefixes, hits_at}
use Rattle.backward.specs.Walk.{Walking}
use Rattle.influence.specs.Part.{Part}
use Rattle.influence.specs.Cone.{marks, part_of}
use Rattle.diagrams.specs.Meaning.{Assignment}
use Rattle.diagram_rows.specs.Rows.{plan_of, plan_length}
use Rattle.row_plans.specs.Plans.{inputs_of, planned, plan_words}
use Rattle.state_sets.specs.declared.Shape.{Shape}
use Rattle.state_sets.specs.Shape.{Fits}
use Rattle.set_stage.specs.Plans.{frees_of, base_of}
use Rattle.set_walk.specs.Walk.{bits_of, Legible, prefix_by, Setting, first_of}
use Rattle.stages.specs.Endings.{Ending, Cut, cut_at, NoneBefore}
use Rattle.set_attempt.specs.Attempt.{attempt_ending, table_made, blank_sets, with_table}
use Rattle.set_attempt.specs.Bits.{free_value}
use Rattle.set_attempt.specs.Stage.{plan_in, stage_ending}
use Rattle.set_attempt.specs.Fit.{Fit}
use Rattle.set_frames.specs.declared.Reached.{Reached}
use Rattle.set_frames.specs.declared.Reached.TheVariants as reached
use Rattle.set_search.specs.declared.Stage.{Stage}
use Rattle.set_search.specs.declared.Place.{Place}
use Rattle.set_search.specs.declared.Searched.{Searched}
use Rattle.set_search.specs.declared.Searched.TheVariants as searched

-- ---- the stage

-- what is asked of a stage in so many words: no frame before the first has a hit
pub record Asks (m : List ℕ) (stage : Stage) (words : ℕ) : Type 0 where
  pub bad : stage.b < word m 5
  pub bound : stage.k ≤ 255
  pub within : stage.first ≤ stage.k
  pub units : size (circuit_in m) stage.k ≤ 65536
  pub room : 16 * size (circuit_in m) stage.k ≤ words
  pub none : NoneBefore (question (circuit_in m) stage.b) stage.first

-- What bound k lets be seen of the stage. After a hit, working memory begins with the free bits of the first one.
abbrev pub SetsOf : Circuit → (b first share k : ℕ) → List ℕ → Searched → Type 0
SetsOf c b first share k work (searched.Hit t) =
    (x : ℕ) × (cut_at k (stage_ending (part_of c b) b share first) ≡ Cut.hit t x) × FreeBits (free_bits c t) x work
SetsOf c b first share k work searched.Clear = cut_at k (stage_ending (part_of c b) b share first) ≡ Cut.none
SetsOf c b first share k work searched.Never = cut_at k (stage_ending (part_of c b) b share first) ≡ Cut.never
SetsOf c b first share k work (searched.GaveUp t) = cut_at k (stage_ending (part_of c b) b share first) ≡ Cut.gave_up t

-- ---- an attempt

-- what an attempt with the ending e reaches by frame k; after a hit, working memory begins with the free bits of the first one
abbrev pub Reaches : Circuit → ℕ → Ending → List ℕ → Reached → Type 0
Reaches c k e work (reached.Hit t) = (x : ℕ) × (e ≡ Ending.hit t x) × (t ≤ k) × FreeBits (free_bits c t) x work
Reaches c k e work (reached.Never t) = e ≡ Ending.never t
Reaches c k e work reached.Clear = e ≡ Ending.clear
Reaches c k e work (reached.GaveUp t) = e ≡ Ending.gave_up t

-- few latches are kept, and few inputs matter
abbrev pub is_able : Part → ℕ → Bool
is_able part b = leb (length part.kept) 112 && leb (length (inputs_of part.circuit (marks part.circuit b))) 4

-- an attempt at the first n frames with an order of the latches, where few are kept and few inputs matter
unfoldable pub attempt_at : Part → (b share first n which : ℕ) → Ending
attempt_at part b share first n which =
    cond (is_able part b) (attempt_ending part.circuit b (plan_in part b which) (16 * size part.circuit first) share first n)
    (Ending.gave_up 0)

-- whether few latches are kept and few inputs matter; if so, the plan was written at the front
pub record PlanPut (c : Circuit) (b which : ℕ) (before after : List ℕ) (r : Bool) : Type 0 where
  pub able : r ≡ is_able (part_of c b) b
  pub words : r ≡ true → after ≡ sets before 0 (plan_words (planned c (marks c b) (depth_first c) which (part_of c b).kept))

-- a plan that fits, room for states of its latches, and a first frame that is large enough
pub record TriesPlan (m : List ℕ) (stage : Stage) (plan base bits : List ℕ) : Type 0 where
  pub fit : Fit (part_of (circuit_in m) stage.b) plan
  pub large : 1024 ≤ size (circuit_in m) stage.first
  pub base-room : length base ≡ word plan 0
  pub bits-room : length bits ≡ word plan 0

-- the ending of an attempt with a plan whose latches are distinct
abbrev pub plan_ending : Circuit → (b share first n : ℕ) → List ℕ → Ending
plan_ending c b share first n plan = with_table c b plan first n (table_made c b plan (blank_sets (16 * size c first) share))

-- the first n words are the variables of the free latches, and all variables have their start values
pub record StartsPut (c : Circuit) (latches frees base : List ℕ) (n : ℕ) : Type 0 where
  pub free : take n frees ≡ frees_of c latches
  pub most : n ≤ 1024
  pub start : base ≡ base_of c latches

-- ---- the first hit of a frame

-- the rows of a trace are those of the first hit of frame t, from the start place whose state is in `bits`
abbrev pub Traced : Shape → ℕ → (w table bits trace : List ℕ) → Type 0
Traced s t w table bits trace =
    (level : ℕ) (m : Machine) (n : ℕ) (at : ℕ → Assignment) (g : Setting level m n at s t w table) (y : ℕ) → Walking m t 0 0 y (m.start y)
    → bits_of bits ≡ at (m.start y) → least_below (prefixes m (suc t)) (hits_at m t) ≡ some (prefix_by m (first_of g) y trace (suc t))

-- what is asked of a frame with a hit
pub record Shown (p : Place) (plan table frees base bits work : List ℕ) : Type 0 where
  pub legible : Legible (take p.words work) table
  pub fits : Fits p.s (length table)
  pub few : p.s.vars ≤ 112
  pub whole : plan_length plan ≤ length plan
  pub inputs : word plan 1 ≤ 4
  pub base-room : length base ≡ p.s.vars
  pub bits-room : length bits ≡ p.s.vars
  pub frame : p.t < 256
  pub words : p.words ≤ length work
  pub width : p.width ≤ 65536
  pub some : length frees < p.count → 0 < p.width
  pub room : p.count ≤ length work

-- working memory begins with the free bits of a sequence: those of its start state, and the inputs of the rows of a trace
pub record HitPut (p : Place) (plan table frees bits before after : List ℕ) : Type 0 where
  pub trace : List ℕ
  pub traced : Traced p.s p.t (take p.words before) table bits trace
  pub put : (j : ℕ) → j < p.count → nonzero (get_or after j 0) ≡ free_value frees bits (plan_of plan).inputs trace p.width j
