-- An attempt at the first n frames names no other frame. Assumes nothing.
use mathlib.Core.Path.{◌≡◌, refl, sym, ap, ◌∙◌, subst}
use mathlib.Core.Bool.{Bool, true, false, cond}
use mathlib.Core.List.{List}
use mathlib.Core.Option.{Option, none, some}
use Prim.Native.Nat.{ℕ, zero, suc, ◌+◌, ◌≤◌, ◌<◌}
use native.Mathlib.Omega.{arith}
use lib.Dec.{eqb, ltb}
use lib.ListN.{get_or}
use Rattle.aiger.specs.Circuit.{Circuit}
use Rattle.aiger.specs.Search.{Question, question}
use Rattle.diagram_rows.specs.Rows.{plan_of}
use Rattle.state_sets.specs.Sets.{Sets, Tried, advanced}
use Rattle.set_walk.specs.declared.Start.{Start}
use Rattle.set_walk.specs.declared.Start.TheVariants as variants
use Rattle.stages.specs.Endings.{Ending}
use Rattle.set_attempt.specs.Attempt.{Setup, start_again, first_hits, hit_at, on_start, after_start, on_set, on_tried, frames_from}
use Rattle.set_attempt.specs.Attempt.{setup_of, table_made, blank_sets, on_table, with_table, is_distinct, attempt_ending}

-- every frame that an ending names is before frame n
abbrev pub Names : ℕ → Ending → Type 0
Names n (Ending.hit t x) = t < n
Names n (Ending.never t) = t < n
Names n Ending.clear = Unit {0}
Names n (Ending.gave_up t) = t < n

module _ (q : Question) (p : Setup) (first n : ℕ) where
  hit-names : (t : ℕ) → t < n → (o : Option ℕ) → Names n (hit_at t o)
  hit-names t l none = l
  hit-names t l (some x) = l

  start-names : (t : ℕ) → t < n → (f : Start) (z : Sets) (later : Sets → Ending) → ((y : Sets) → Names n (later y)) → Names n (on_start q t f z later)
  start-names t l variants.Least z later h = hit-names t l (first_hits q t)
  start-names t l variants.Nowhere z later h = h z
  start-names t l variants.Full z later h = l

  tried-names : (t : ℕ) → t < n → (d : Bool) (z : Sets) (later : Sets → Ending) → ((y : Sets) → Names n (later y)) → Names n (on_tried q p first t d z later)
  tried-names t l false z later h = l
  tried-names t l true z later h = go (eqb (get_or z.table t 0) 0) (ltb t first)
    where
      go : (a i : Bool) → Names n (cond a (Ending.never t) (cond i (later z) (after_start q t (start_again p t z) later)))
      go true i = l
      go false true = h z
      go false false = start-names t l (start_again p t z).found (start_again p t z).sets later h

  frames-names : (j t : ℕ) (z : Sets) → t + j ≡ n → Names n (frames_from q p first j t z)
  unfolding frames_from
  frames-names zero t z e = tt
  frames-names (suc j) t z e =
      tried-names t (omega arith) (advanced p.vars p.rows t z).done (advanced p.vars p.rows t z).sets (frames_from q p first j (suc t))
      (λ y. frames-names j (suc t) y (omega arith))

-- an attempt at some frames
pub attempt-names : (c : Circuit) (b : ℕ) (plan : List ℕ) (words looks first n : ℕ) → 0 < n → Names n (attempt_ending c b plan words looks first n)
unfolding attempt_ending
attempt-names c b plan words looks first n l =
    by (is_distinct (plan_of plan).latches) (table_made c b plan (blank_sets words looks)).done (table_made c b plan (blank_sets words looks)).sets
  where
    by : (d e : Bool) (z : Sets) → Names n (cond d (on_table c b plan first n e z) (Ending.gave_up 0))
    by false e z = l
    by true false z = l
    by true true z = frames-names (question c b) (setup_of c plan) first n n 0 z (omega arith)
