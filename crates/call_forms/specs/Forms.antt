-- Clause 12.7: what each operation answers to a user, and what it leaves. Every operation has one form. Assumes nothing.
use Rattle.std.specs.Prelude.{◌≡◌, Bool, cond, ◌&&◌, List, [], ◌∷◌, map, ℕ, ◌+◌, ◌*◌, leb, ltb, length, set}
use Rattle.aiger.specs.Lists.{upto}
use Rattle.aiger.specs.Circuit.{Circuit}
use Rattle.aiger.specs.Load.{Answer, refused, gives, load, ◌>>=◌}
use Rattle.aiger.specs.Search.{Report}
use Rattle.aiger.specs.Operations.{Loaded, Operated, Test, need}
use Rattle.completions.specs.Either.{Verdict}
use Rattle.pins.specs.Pins.{pins_of}
use Rattle.pinning.specs.Operations.{PinnedSearched, PinnedFolded}
use Rattle.pinning.specs.FromPlace.{PinnedSearchedFrom}
use Rattle.place_search.specs.Places.{Placed}
use Rattle.pinned_runs.specs.Obeys.{PinnedReplayed, PinnedWidened}
use Rattle.joined.specs.Joined.{JoinedInto}
use Rattle.load.specs.Preview.{counts_of, words_needed}
use Rattle.waveform.specs.Waveform.{Waveformed}
use Rattle.writer.specs.Forms.{form_test, InForm}
use Rattle.generated.specs.Generated.{Generated}
use Rattle.call_forms.specs.Table.{
  Row,
  load_row,
  pin_row,
  search_row,
  search_from_row,
  fold_row,
  write_row,
  preview_row,
  join_row,
  replay_row,
  widen_row,
  waveform_row,
  generate_row,
}
-- the form of a call: tests that need no circuit, then the operation
pub use Rattle.first_tests.specs.Tested.{Tested}

-- 18 where the user may not call the operation
abbrev pub user_test : Row → ℕ → Test
user_test row user = need 18 (leb user row.last)

-- the form of a call whose first test is that of the user alone
abbrev pub ForUser : {A S : Type 0} → Row → ℕ → S → (Answer A → S → Type 0) → Answer A → S → Type 0
ForUser row user lent answers = Tested (user_test row user ∷ []) lent answers

-- ---- calls that replace the shared circuit

-- what users share, when a circuit is replaced: the pins, 256 bytes for each user, are free, and the bytes after them are 0
abbrev pub free_byte : ℕ → ℕ
free_byte i = cond (ltb i 512) 2 0

abbrev pub freed : List ℕ → List ℕ
freed shared = map free_byte (upto (length shared))

-- a refusal leaves it
abbrev pub shared_after : Answer (List ℕ) → List ℕ → List ℕ
shared_after (refused n) shared = shared
shared_after (gives counts) shared = freed shared

-- `answers` says what is answered to a user who may, and what is left of the circuit memory
abbrev pub Replaced : Row → ℕ → List ℕ → List ℕ → (Answer (List ℕ) → List ℕ → Type 0) → Answer (List ℕ) → List ℕ → List ℕ → Type 0
Replaced row user m shared answers a m' shared' =
    ForUser {S = List ℕ × List ℕ} row user (m, shared) (λ a left. answers a left.0 × (left.1 ≡ shared_after a shared)) a (m', shared')

abbrev pub UserLoaded : List ℕ → List ℕ → List ℕ → ℕ → Answer (List ℕ) → List ℕ → List ℕ → Type 0
UserLoaded m f shared user a m' shared' = Replaced load_row user m shared (Loaded m f) a m' shared'

-- a join of two circuits into the shared memory
abbrev pub UserJoined : List ℕ → List ℕ → List ℕ → List ℕ → ℕ → Answer (List ℕ) → List ℕ → List ℕ → Type 0
UserJoined first second m shared user a m' shared' = Replaced join_row user m shared (JoinedInto first second m) a m' shared'

-- ---- the setting of a pin

-- 18 for a user who is not known and for a value that is none
abbrev pub pin_first : ℕ → ℕ → List Test
pin_first user value = user_test pin_row user ∷ need 18 (leb value 2) ∷ []

-- 18 where the circuit has no such input, or the pin memory no byte for it
abbrev pub pin_tests : ℕ → ℕ → ℕ → Circuit → List Test
pin_tests user input len c = need 18 (ltb input (length c.inputs) && ltb (256 * user + input) len) ∷ []

-- the byte of the pin has the value, all others are as they were
abbrev pub PinEffect : ℕ → ℕ → ℕ → List ℕ → Circuit → Unit {0} → List ℕ → Type 0
PinEffect user input value shared c a left = left ≡ set shared (256 * user + input) value

abbrev pub PinSet : List ℕ → ℕ → ℕ → ℕ → List ℕ → Answer (Unit {0}) → List ℕ → Type 0
PinSet m user input value shared a shared' =
    Tested (pin_first user value) shared (Operated m (pin_tests user input (length shared)) shared (PinEffect user input value shared)) a shared'

-- ---- operations under the user's pins

abbrev pub UserSearched : (Circuit → ℕ → ℕ → ℕ → Report) → List ℕ → List ℕ → ℕ → ℕ → ℕ → ℕ → List ℕ → List ℕ → Answer Report
    → List ℕ → List ℕ → Type 0
UserSearched chosen m shared user b k D w out a w' out' =
    ForUser search_row user (w, out) (PinnedSearched chosen m (pins_of shared user) b k D w out) a (w', out')

abbrev pub UserSearchedFrom : (Circuit → ℕ → ℕ → ℕ → ℕ → Placed) → List ℕ → List ℕ → ℕ → ℕ → ℕ → ℕ → ℕ → List ℕ → List ℕ → Answer Report
    → List ℕ → List ℕ → Type 0
UserSearchedFrom chosen m shared user b t place D w out a w' out' =
    ForUser search_from_row user (w, out) (PinnedSearchedFrom chosen m (pins_of shared user) b t place D w out) a (w', out')

abbrev pub UserFolded : (Circuit → ℕ → ℕ → Circuit) → List ℕ → List ℕ → ℕ → ℕ → ℕ → List ℕ → List ℕ → Answer ℕ → List ℕ → List ℕ → Type 0
UserFolded chosen m shared user b t w out a w' out' =
    ForUser fold_row user (w, out) (PinnedFolded chosen m (pins_of shared user) b t w out) a (w', out')

abbrev pub UserReplayed : List ℕ → List ℕ → ℕ → List ℕ → Answer Verdict → Type 0
UserReplayed m shared user text a = ForUser {S = Unit {0}} replay_row user tt (λ a _. PinnedReplayed m (pins_of shared user) text a) a tt

abbrev pub UserWidened : List ℕ → List ℕ → ℕ → List ℕ → List ℕ → Answer ℕ → List ℕ → Type 0
UserWidened m shared user text out a out' = ForUser widen_row user out (PinnedWidened m (pins_of shared user) text out) a out'

-- ---- operations that pins do not change

-- Clause 12.14: 18, then 21, then what the writer of the form answers
abbrev pub UserWritten : List ℕ → ℕ → ℕ → List ℕ → Answer ℕ → List ℕ → Type 0
UserWritten m user form out a out' = Tested (user_test write_row user ∷ form_test form ∷ []) out (InForm form m out) a out'

abbrev pub UserWaveformed : List ℕ → ℕ → Bool → List ℕ → List ℕ → Answer ℕ → List ℕ → Type 0
UserWaveformed m user only text out a out' = ForUser waveform_row user out (Waveformed m only text out) a out'

-- Clause 12.8: what user 0's load would answer, and the words that the circuit needs: 0 where the user is refused
abbrev pub UserPreviewed : ℕ → List ℕ → ℕ → Answer (List ℕ) → ℕ → Type 0
UserPreviewed room f user a n =
    ForUser preview_row user 0 (λ a n. (a ≡ (load room f >>= λ c. gives (counts_of c))) × (n ≡ words_needed f)) a n

-- Clause 12.12: a circuit made from a seed and counts. It takes no circuit and leaves none
abbrev pub UserGenerated : ℕ → ℕ → ℕ → ℕ → ℕ → List ℕ → Answer ℕ → List ℕ → Type 0
UserGenerated user seed i l a out answer out' = ForUser generate_row user out (Generated seed i l a out) answer out'
