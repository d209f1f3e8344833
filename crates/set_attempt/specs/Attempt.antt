-- An attempt at the frames by sets of states, with one order of the latches: the table is made, and then one set after the other. From
-- frame `first` on the start states of each set are sought. The stage tries orders in turn. Assumes nothing.
use Rattle.std.specs.Prelude.{Bool, true, false, not, cond, List, [], ◌∷◌, ℕ, zero, suc, ◌*◌, ◌^◌, max, eqb, ltb, length, get_or, set, replicate}
use Rattle.std.proofs.Math.Option.{Option, none, some}
use Rattle.aiger.specs.Lists.{every_below}
use Rattle.aiger.specs.Circuit.{Circuit}
use Rattle.aiger.specs.Frames.{free_bits}
use Rattle.aiger.specs.Search.{Question, least_below, question}
use Rattle.diagrams.specs.States.{State, state_of, Outcome, begun}
use Rattle.collection.specs.Collecting.{Collection, collected}
use Rattle.diagram_rows.specs.Rows.{Plan, plan_of}
use Rattle.state_sets.specs.Shape.{row_at}
use Rattle.state_sets.specs.Sets.{Sets, Tried, tried, where_done, again, advanced}
use Rattle.set_walk.specs.declared.Start.{Start}
use Rattle.set_walk.specs.declared.Start.TheVariants as variants
use Rattle.set_walk.specs.Start.{Sought, seek}
use Rattle.set_stage.specs.Plans.{frees_of, base_of}
use Rattle.set_stage.specs.Table.{with_resets, rows_put}
use Rattle.stages.specs.Endings.{Ending}

-- ---- the start states of a set

-- how many variables and rows a table has, the variables of the free latches, and the start values of all variables
pub record Setup : Type 0 where
  pub vars : ℕ
  pub rows : ℕ
  pub frees : List ℕ
  pub base : List ℕ

-- a diagram with its table, what was found of a set's start states, and a state in words
pub record Seen : Type 0 where
  pub sets : Sets
  pub found : Start
  pub bits : List ℕ

abbrev pub seen_in : List ℕ → Sought → Seen
seen_in table o = record { sets = record { state = o.state; table = table }; found = o.found; bits = o.bits }

-- the least start state of set t
unfoldable pub start_seen : Setup → ℕ → Sets → Seen
start_seen p t z = seen_in z.table (seek p.vars p.rows t p.frees z.table p.base z.state)

-- once more after a collection
abbrev pub on_collected : Bool → Sets → List ℕ → (Sets → Seen) → Seen
on_collected true z bits look = look z
on_collected false z bits look = record { sets = z; found = variants.Full; bits = bits }

abbrev pub after_collected : Collection → List ℕ → (Sets → Seen) → Seen
after_collected g bits look = on_collected g.kept (record { state = g.state; table = g.roots }) bits look

-- where the diagram was full, once more after a collection
abbrev pub or_once_more : Start → Seen → (Sets → Seen) → Seen
or_once_more variants.Least o look = o
or_once_more variants.Nowhere o look = o
or_once_more variants.Full o look = after_collected (collected o.sets.state o.sets.table) o.bits look

unfoldable pub start_again : Setup → ℕ → Sets → Seen
start_again p t z = or_once_more (start_seen p t z).found (start_seen p t z) (start_seen p t)

-- ---- the frames of an attempt

-- the first hit of each frame, if there is one
unfoldable pub first_hits : Question → ℕ → Option ℕ
first_hits q t = least_below (q.places t) (q.hitting t)

-- frame t has a hit, which the walk finds
abbrev pub hit_at : ℕ → Option ℕ → Ending
hit_at t (some x) = Ending.hit t x
hit_at t none = Ending.gave_up t

-- after the start states of set t were sought
abbrev pub on_start : Question → ℕ → Start → Sets → (Sets → Ending) → Ending
on_start q t variants.Least z later = hit_at t (first_hits q t)
on_start q t variants.Nowhere z later = later z
on_start q t variants.Full z later = Ending.gave_up t

abbrev pub after_start : Question → ℕ → Seen → (Sets → Ending) → Ending
after_start q t o later = on_start q t o.found o.sets later

-- set t stands: where its edge is 0, no frame at all has a hit, which is known at frame t
abbrev pub on_set : Question → Setup → (first t : ℕ) → Sets → (Sets → Ending) → Ending
on_set q p first t z later =
    cond (eqb (get_or z.table t 0) 0) (Ending.never t) (cond (ltb t first) (later z) (after_start q t (start_again p t z) later))

-- set t was tried
abbrev pub on_tried : Question → Setup → (first t : ℕ) → Bool → Sets → (Sets → Ending) → Ending
on_tried q p first t true z later = on_set q p first t z later
on_tried q p first t false z later = Ending.gave_up t

abbrev pub after_tried : Question → Setup → (first t : ℕ) → Tried → (Sets → Ending) → Ending
after_tried q p first t o later = on_tried q p first t o.done o.sets later

-- n frames from t on, where the sets before t stand
unfoldable pub frames_from : Question → Setup → (first n t : ℕ) → Sets → Ending
frames_from q p first zero t z = Ending.clear
frames_from q p first (suc n) t z = after_tried q p first t (advanced p.vars p.rows t z) (frames_from q p first n (suc t))

-- ---- the table

-- the edge of the start states stands after the rows
abbrev pub start_stored : ℕ → List ℕ → State → Option ℕ → Tried
start_stored at table s none = tried s table false
start_stored at table s (some e) = tried s (set table at e) true

abbrev pub start_stored_in : ℕ → List ℕ → Outcome → Tried
start_stored_in at table o = start_stored at table o.state o.edge

unfoldable pub start_put : Circuit → List ℕ → ℕ → Sets → Tried
start_put c latches rows z = start_stored_in (row_at (length latches) rows) z.table (with_resets c 0 latches z.state 1)

-- how many rows a plan has
abbrev pub rows_of : List ℕ → ℕ
rows_of plan = 2 ^ length (plan_of plan).inputs

-- the edge of the start states and all rows, each once more after a collection
unfoldable pub table_made : Circuit → ℕ → List ℕ → Sets → Tried
table_made c b plan z =
    where_done (again (start_put c (plan_of plan).latches (rows_of plan)) z) (rows_put c b plan (rows_of plan))

-- a table for up to 112 variables and 16 rows, and a diagram of so many words with so many looks
unfoldable pub blank_sets : ℕ → ℕ → Sets
blank_sets words looks = record { state = state_of (begun words looks); table = replicate 2083 0 }

abbrev pub setup_of : Circuit → List ℕ → Setup
setup_of c plan =
    record {
      vars = length (plan_of plan).latches;
      rows = rows_of plan;
      frees = frees_of c (plan_of plan).latches;
      base = base_of c (plan_of plan).latches;
    }

-- ---- attempts and the stage

-- the frames, where the table was made
abbrev pub on_table : Circuit → ℕ → List ℕ → (first n : ℕ) → Bool → Sets → Ending
on_table c b plan first n true z = frames_from (question c b) (setup_of c plan) first n 0 z
on_table c b plan first n false z = Ending.gave_up 0

abbrev pub with_table : Circuit → ℕ → List ℕ → (first n : ℕ) → Tried → Ending
with_table c b plan first n o = on_table c b plan first n o.done o.sets

-- no word is there twice
abbrev pub is_new : List ℕ → ℕ → Bool
is_new xs v = every_below v (λ u. not (eqb (get_or xs u 0) (get_or xs v 0)))

unfoldable pub is_distinct : List ℕ → Bool
is_distinct xs = every_below (length xs) (is_new xs)

-- An attempt with a plan at the first n frames, with a diagram of so many words and so many looks. That no latch is there twice is tested,
-- so that no law about orders is needed.
unfoldable pub attempt_ending : Circuit → ℕ → List ℕ → (words looks first n : ℕ) → Ending
attempt_ending c b plan words looks first n =
    cond (is_distinct (plan_of plan).latches) (with_table c b plan first n (table_made c b plan (blank_sets words looks))) (Ending.gave_up 0)

-- an attempt that decides a frame from `first` on is the ending of the stage; otherwise what comes later is
abbrev pub or_later : ℕ → Ending → Ending → Ending
or_later first (Ending.hit t x) later = Ending.hit t x
or_later first (Ending.never t) later = Ending.never (max t first)
or_later first Ending.clear later = Ending.clear
or_later first (Ending.gave_up t) later = cond (ltb first t) (Ending.gave_up t) later

-- attempts in turn
unfoldable pub in_turn : ℕ → (ℕ → Ending) → List ℕ → Ending
in_turn first attempt [] = Ending.gave_up first
in_turn first attempt (w ∷ ws) = or_later first (attempt w) (in_turn first attempt ws)

-- the orders that are tried
abbrev pub orders : List ℕ
orders = 0 ∷ 1 ∷ 3 ∷ 2 ∷ []

-- what a stage is given: whether it may try at all from a frame on, the plans by their orders, the words of the diagram by the first frame,
-- and the looks of an attempt
pub record Trial : Type 0 where
  pub may : ℕ → Bool
  pub plans : ℕ → List ℕ
  pub words : ℕ → ℕ
  pub looks : ℕ

-- the stage at the first n frames
unfoldable pub sets_within : Circuit → ℕ → Trial → (n first : ℕ) → Ending
sets_within c b o n first =
    cond (o.may first) (in_turn first (λ w. attempt_ending c b (o.plans w) (o.words first) o.looks first n) orders) (Ending.gave_up first)

-- its endings: frames up to 255
abbrev pub sets_ending : Circuit → ℕ → Trial → ℕ → Ending
sets_ending c b o first = sets_within c b o 256 first
