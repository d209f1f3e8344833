-- The frames of an attempt: what the code reaches, one frame after the other, and what it leaves at a hit. Assumes nothing.
use Rattle.std.specs.Prelude.{◌≡◌, Bool, true, false, cond, List, ℕ, zero, suc, ◌≤◌, ◌<◌, eqb, ltb, length, get_or}
use Rattle.aiger.specs.Frames.{free_bit}
use Rattle.aiger.specs.Search.{Question}
use Rattle.machine.specs.Machine.{Machine}
use Rattle.machine.proofs.Theorems.{QuietBefore}
use Rattle.backward.specs.Sets.{Inside}
use Rattle.backward.specs.Walk.{Walking}
use Rattle.diagrams.specs.Meaning.{Assignment}
use Rattle.state_sets.specs.declared.Shape.{Shape}
use Rattle.state_sets.specs.Sets.{Sets, Tried, advanced}
use Rattle.state_sets.specs.Meaning.{Coded, Held}
use Rattle.set_walk.specs.declared.Start.{Start}
use Rattle.set_walk.specs.declared.Start.TheVariants as starts
use Rattle.set_walk.specs.Walk.{bits_of, Setting, first_of}
use Rattle.set_walk.specs.Start.{StartsOf}
use Rattle.stages.specs.Endings.{Ending}
use Rattle.set_attempt.specs.Attempt.{Setup, Seen, start_again, first_hits, hit_at, frames_from}
use Rattle.set_frames.specs.declared.Reached.{Reached}
use Rattle.set_frames.specs.declared.Reached.TheVariants as variants

-- the shape of a table, the variables of the free latches, and the start values of all variables
abbrev pub setup_in : Shape → (frees base : List ℕ) → Setup
setup_in s frees base = record { vars = s.vars; rows = s.rows; frees = frees; base = base }

abbrev pub seen : Sets → Start → List ℕ → Seen
seen z found bits = record { sets = z; found = found; bits = bits }

-- ---- one frame after the other

-- a diagram with its table, a state in words, and what was reached
pub record Ran : Type 0 where
  pub sets : Sets
  pub bits : List ℕ
  pub reached : Reached

abbrev pub ran : Sets → List ℕ → Reached → Ran
ran z bits r = record { sets = z; bits = bits; reached = r }

-- what the start states of set t say of frame t
abbrev pub reached_by : ℕ → Start → Reached
reached_by t starts.Least = variants.Hit t
reached_by t starts.Nowhere = variants.Clear
reached_by t starts.Full = variants.GaveUp t

abbrev pub of_seen : ℕ → Seen → Ran
of_seen t o = ran o.sets o.bits (reached_by t o.found)

-- set t stands: where its edge is 0, no frame at all has a hit; from frame `first` on its start states are sought
abbrev pub of_set : Setup → (first t : ℕ) → List ℕ → Sets → Ran
of_set p first t bits z =
    cond (eqb (get_or z.table t 0) 0) (ran z bits (variants.Never t))
    (cond (ltb t first) (ran z bits variants.Clear) (of_seen t (start_again p t z)))

-- set t was tried
abbrev pub on_made : Setup → (first t : ℕ) → List ℕ → Bool → Sets → Ran
on_made p first t bits true z = of_set p first t bits z
on_made p first t bits false z = ran z bits (variants.GaveUp t)

abbrev pub of_tried : Setup → (first t : ℕ) → List ℕ → Tried → Ran
of_tried p first t bits o = on_made p first t bits o.done o.sets

-- frame t, where the sets before t stand
unfoldable pub frame_run : Setup → (first t : ℕ) → List ℕ → Sets → Ran
frame_run p first t bits z = of_tried p first t bits (advanced p.vars p.rows t z)

-- what follows where a frame is clear
abbrev pub on_reached : Reached → Sets → List ℕ → (List ℕ → Sets → Ran) → Ran
on_reached variants.Clear z bits next = next bits z
on_reached (variants.Hit t) z bits next = ran z bits (variants.Hit t)
on_reached (variants.Never t) z bits next = ran z bits (variants.Never t)
on_reached (variants.GaveUp t) z bits next = ran z bits (variants.GaveUp t)

abbrev pub where_clear : Ran → (List ℕ → Sets → Ran) → Ran
where_clear o next = on_reached o.reached o.sets o.bits next

-- n frames from t on
unfoldable pub frames_run : Setup → (first n t : ℕ) → List ℕ → Sets → Ran
frames_run p first zero t bits z = ran z bits variants.Clear
frames_run p first (suc n) t bits z = where_clear (frame_run p first t bits z) (frames_run p first n (suc t))

-- ---- what they say

-- the ending of an attempt that reaches r: the walk from a hit gives the first one of its frame
abbrev pub ending_of : Question → Reached → Ending
ending_of q (variants.Hit t) = hit_at t (first_hits q t)
ending_of q (variants.Never t) = Ending.never t
ending_of q variants.Clear = Ending.clear
ending_of q (variants.GaveUp t) = Ending.gave_up t

-- the sets before `next` of some machine stand in a table, with its start states
pub record Stands (s : Shape) (frees base : List ℕ) (next : ℕ) (z : Sets) : Type 0 where
  pub level : ℕ
  pub machine : Machine
  pub n : ℕ
  pub at : ℕ → Assignment
  pub inside : Inside machine n
  pub coded : Coded at s.vars
  pub starts : StartsOf machine at s.vars frees base
  pub held : Held level machine n at s.vars s.rows next 0 z

-- a table that is ready for set 0
abbrev pub Begun : Shape → (frees base : List ℕ) → Sets → Type 0
Begun s frees base z = Stands s frees base 0 z

-- The sets up to t of a machine stand in a table, row k of the table is row `first k` of the machine, and bits are the state of the start
-- place from which the walk to the first hit of frame t begins; its free bits are those of the state.
pub record Started (level : ℕ) (m : Machine) (n : ℕ) (at : ℕ → Assignment) (s : Shape) (t : ℕ) (w table frees bits : List ℕ)
    (first : ℕ → ℕ) : Type 0 where
  pub setting : Setting level m n at s t w table
  pub rows : (k : ℕ) → first_of setting k ≡ first k
  pub place : ℕ
  pub walking : Walking m t 0 0 place (m.start place)
  pub here : bits_of bits ≡ at (m.start place)
  pub free : (u : ℕ) → u < length frees → free_bit (length frees) place u ≡ bits_of bits (get_or frees u 0)

-- What n frames reach from a table that is ready for set 0, and what they leave. `ends`: the ending of the attempt, for every question.
-- `hit`: at a hit the walk can begin, for every machine whose rows and start states those of the table were, where no frame before `first`
-- has a hit; the rows of the table are still its rows.
pub record FramesAre (s : Shape) (frees base : List ℕ) (first n : ℕ) (z : Sets) (w table bits : List ℕ) (r : Reached) : Type 0 where
  pub ends : (q : Question) → frames_from q (setup_in s frees base) first n 0 z ≡ ending_of q r
  pub hit : (t : ℕ) → r ≡ variants.Hit t → (t < n)
      × ((level : ℕ) (m : Machine) (states : ℕ) → Inside m states → (at : ℕ → Assignment) → Coded at s.vars → s.rows ≤ 16
      → StartsOf m at s.vars frees base → (h : Held level m states at s.vars s.rows 0 0 z) → QuietBefore m first
      → Started level m states at s t w table frees bits h.standing.rows-of.first)
