-- What a C function tells: the number that it returns, and what stands afterwards in the answer that it was lent. Assumes nothing.
use Rattle.std.specs.Prelude.{◌≡◌, Bool, cond, List, [], ℕ, eqb, get_or}
use Rattle.aiger.specs.Load.{Answer, refused, gives, needed}
use Rattle.aiger.specs.Search.{Outcome, Report}
use Rattle.completions.specs.Either.{Verdict}
use Rattle.answer_places.specs.Places.{done, found, none, spent, all, no, mixed, places_with, places, no_counts, overlaid}
use Rattle.call_forms.specs.History.{State, Call, Returned, Step}

-- the number of this interface: it grows by 1 with each delivery that changes it
abbrev pub version : ℕ
version = 2

-- ---- what is told of each answer: the number of a refusal, or the sixteen places

-- a circuit that is loaded or joined: its counts, and the words that it needs
abbrev pub load_told : Answer (List ℕ) → Answer (List ℕ)
load_told (refused n) = refused n
load_told (gives counts) = gives (places done 0 0 (needed (get_or counts 0 0)) counts 0 0)

abbrev pub pin_told : Answer (Unit {0}) → Answer (List ℕ)
pin_told (refused n) = refused n
pin_told (gives a) = gives (places done 0 0 0 no_counts 0 0)

-- the kind and the frame of an outcome: the first frame with a hit, the bound, or the frame that was not decided
abbrev pub kind_of : Outcome → ℕ
kind_of (Outcome.found t) = found
kind_of (Outcome.none k) = none
kind_of (Outcome.spent t) = spent

abbrev pub frame_of : Outcome → ℕ
frame_of (Outcome.found t) = t
frame_of (Outcome.none k) = k
frame_of (Outcome.spent t) = t

abbrev pub flag : Bool → ℕ
flag b = cond b 1 0

-- a search: its outcome, the length of its witness, the place that was reached (Clause 12.10), and whether no frame at all has a hit
abbrev pub search_told : Answer Report → Answer (List ℕ)
search_told (refused n) = refused n
search_told (gives r) =
    gives (places_with (kind_of r.outcome) (frame_of r.outcome) r.length 0 r.reached no_counts (flag r.never) 0)

-- a text that was written: its length
abbrev pub text_told : Answer ℕ → Answer (List ℕ)
text_told (refused n) = refused n
text_told (gives n) = gives (places done 0 n 0 no_counts 0 0)

-- a preview is refused with 18 alone; the number that load would answer is told in a place of its own
abbrev pub preview_told : Answer (List ℕ) → ℕ → Answer (List ℕ)
preview_told (refused n) words = cond (eqb n 18) (refused n) (gives (places done 0 0 words no_counts 0 n))
preview_told (gives counts) words = gives (places done 0 0 words counts 0 0)

abbrev pub replay_told : Answer Verdict → Answer (List ℕ)
replay_told (refused n) = refused n
replay_told (gives Verdict.all) = gives (places all 0 0 0 no_counts 0 0)
replay_told (gives Verdict.no) = gives (places no 0 0 0 no_counts 0 0)
replay_told (gives Verdict.mixed) = gives (places mixed 0 0 0 no_counts 0 0)

abbrev pub told : Returned → Answer (List ℕ)
told (Returned.loaded a) = load_told a
told (Returned.pinned a) = pin_told a
told (Returned.searched a out) = search_told a
told (Returned.folded a out) = text_told a
told (Returned.written a out) = text_told a
told (Returned.previewed a words) = preview_told a words
told (Returned.replayed a) = replay_told a

-- ---- the contract of a C function

-- 0, or the number of the refusal
abbrev pub number_of : Answer (List ℕ) → ℕ
number_of (refused n) = n
number_of (gives row) = 0

-- a refusal leaves the answer that was lent as it was
abbrev pub answer_after : Answer (List ℕ) → List ℕ → List ℕ
answer_after (refused n) answer = answer
answer_after (gives row) answer = overlaid row answer

pub record Tells (a : Answer (List ℕ)) (answer : List ℕ) (number : ℕ) (answer' : List ℕ) : Type 0 where
  pub returns : number ≡ number_of a
  pub leaves : answer' ≡ answer_after a answer

-- what is lent: what users share, circuit memory and working memory, each empty where a function does not take it
abbrev pub lent : List ℕ → List ℕ → List ℕ → State
lent shared circuit work = record { memory = circuit; work = work; pins = shared }

-- what a call leaves in its output, nothing where it has none
abbrev pub output_of : Returned → List ℕ
output_of (Returned.loaded a) = []
output_of (Returned.pinned a) = []
output_of (Returned.searched a out) = out
output_of (Returned.folded a out) = out
output_of (Returned.written a out) = out
output_of (Returned.previewed a words) = []
output_of (Returned.replayed a) = []

-- one form for all functions: the call is a step from what was lent to what is left, and what it returned is told
pub record Called (s : State) (c : Call) (s' : State) (out' answer : List ℕ) (number : ℕ) (answer' : List ℕ) : Type 0 where
  pub returned : Returned
  pub step : Step s c returned s'
  pub output : output_of returned ≡ out'
  pub tells : Tells (told returned) answer number answer'
