-- Clause 12.7: calls of two users on one circuit memory and one working memory, what a call answers and leaves, and histories of calls.
-- Assumes nothing.
use Rattle.std.specs.Prelude.{◌≡◌, Bool, true, false, List, [], ◌∷◌, ℕ, ◌+◌, ◌*◌, ◌≤◌, ◌<◌, length, get_or}
use Rattle.aiger.specs.Load.{Answer, refused, gives}
use Rattle.aiger.specs.Search.{Report}
use Rattle.completions.specs.Either.{Verdict}
use Rattle.search.specs.Chosen as Search
use Rattle.place_decision.specs.Reach.{place_chosen}
use Rattle.fold.specs.Chosen as Fold
use Rattle.call_forms.specs.Table.{
  Changes,
  Row,
  load_row,
  pin_row,
  search_row,
  search_from_row,
  fold_row,
  write_row,
  preview_row,
  join_row,
  replay_row,
  widen_row,
  waveform_row,
  generate_row,
}
use Rattle.call_forms.specs.Forms.{
  UserLoaded,
  UserJoined,
  PinSet,
  UserSearched,
  UserSearchedFrom,
  UserFolded,
  UserReplayed,
  UserWidened,
  UserWritten,
  UserWaveformed,
  UserPreviewed,
  UserGenerated,
}

-- what stays from call to call: the circuit memory and the working memory of both users, and the pins of each
pub record State : Type 0 where
  pub memory : List ℕ
  pub work : List ℕ
  pub pins : List ℕ

-- a call: the user, what the operation takes, and what is lent to it alone
pub data Call : Type 0 where
  load : (user : ℕ) (file : List ℕ) → Call
  set_pin : (user input value : ℕ) → Call
  search : (user b k D : ℕ) (out : List ℕ) → Call
  search_from : (user b t place D : ℕ) (out : List ℕ) → Call
  fold : (user b t : ℕ) (out : List ℕ) → Call
  write : (user form : ℕ) (out : List ℕ) → Call
  preview : (user : ℕ) (file : List ℕ) → Call
  join : (user : ℕ) (first second : List ℕ) → Call
  replay : (user : ℕ) (witness : List ℕ) → Call
  widen : (user : ℕ) (witness out : List ℕ) → Call
  waveform : (user : ℕ) (only : Bool) (witness out : List ℕ) → Call
  generate : (user seed i l a : ℕ) (out : List ℕ) → Call

-- what a call returns: the answer, and the output that was lent. A join answers as a load does; write, widening, waveform and generate
-- write a text
pub data Returned : Type 0 where
  loaded : Answer (List ℕ) → Returned
  pinned : Answer (Unit {0}) → Returned
  searched : Answer Report → List ℕ → Returned
  folded : Answer ℕ → List ℕ → Returned
  written : Answer ℕ → List ℕ → Returned
  previewed : Answer (List ℕ) → ℕ → Returned
  replayed : Answer Verdict → Returned

-- whose call it is
abbrev pub user_of : Call → ℕ
user_of (Call.load user file) = user
user_of (Call.set_pin user input value) = user
user_of (Call.search user b k D out) = user
user_of (Call.search_from user b t place D out) = user
user_of (Call.fold user b t out) = user
user_of (Call.write user form out) = user
user_of (Call.preview user file) = user
user_of (Call.join user first second) = user
user_of (Call.replay user witness) = user
user_of (Call.widen user witness out) = user
user_of (Call.waveform user only witness out) = user
user_of (Call.generate user seed i l a out) = user

-- the row of a call in the table of operations
abbrev pub row_of : Call → Row
row_of (Call.load user file) = load_row
row_of (Call.set_pin user input value) = pin_row
row_of (Call.search user b k D out) = search_row
row_of (Call.search_from user b t place D out) = search_from_row
row_of (Call.fold user b t out) = fold_row
row_of (Call.write user form out) = write_row
row_of (Call.preview user file) = preview_row
row_of (Call.join user first second) = join_row
row_of (Call.replay user witness) = replay_row
row_of (Call.widen user witness out) = widen_row
row_of (Call.waveform user only witness out) = waveform_row
row_of (Call.generate user seed i l a out) = generate_row

-- a load, or a join, was accepted
abbrev pub is_accepted : Returned → Bool
is_accepted (Returned.loaded (refused n)) = false
is_accepted (Returned.loaded (gives counts)) = true
is_accepted (Returned.pinned a) = false
is_accepted (Returned.searched a out) = false
is_accepted (Returned.folded a out) = false
is_accepted (Returned.written a out) = false
is_accepted (Returned.previewed a n) = false
is_accepted (Returned.replayed a) = false

-- the number of a refusal, 0 where a call was not refused
abbrev pub refusal_of : Returned → ℕ
refusal_of (Returned.loaded (refused n)) = n
refusal_of (Returned.loaded (gives counts)) = 0
refusal_of (Returned.pinned (refused n)) = n
refusal_of (Returned.pinned (gives a)) = 0
refusal_of (Returned.searched (refused n) out) = n
refusal_of (Returned.searched (gives o) out) = 0
refusal_of (Returned.folded (refused n) out) = n
refusal_of (Returned.folded (gives l) out) = 0
refusal_of (Returned.written (refused n) out) = n
refusal_of (Returned.written (gives l) out) = 0
refusal_of (Returned.previewed (refused n) words) = n
refusal_of (Returned.previewed (gives counts) words) = 0
refusal_of (Returned.replayed (refused n)) = n
refusal_of (Returned.replayed (gives v)) = 0

-- what a call may answer and leave: the contract of its operation
pub data Step (s : State) : Call → Returned → State → Type 0 where
  loads : {user : ℕ} {file m' p' : List ℕ} {a : Answer (List ℕ)} → UserLoaded s.memory file s.pins user a m' p'
      → Step s (Call.load user file) (Returned.loaded a) (record { memory = m'; work = s.work; pins = p' })
  pins : {user input value : ℕ} {p' : List ℕ} {a : Answer (Unit {0})} → PinSet s.memory user input value s.pins a p'
      → Step s (Call.set_pin user input value) (Returned.pinned a) (record { memory = s.memory; work = s.work; pins = p' })
  searches : {user b k D : ℕ} {out w' out' : List ℕ} {a : Answer Report}
      → UserSearched Search.chosen s.memory s.pins user b k D s.work out a w' out'
      → length w' ≡ length s.work
      → Step s (Call.search user b k D out) (Returned.searched a out') (record { memory = s.memory; work = w'; pins = s.pins })
  searches_from : {user b t place D : ℕ} {out w' out' : List ℕ} {a : Answer Report}
      → UserSearchedFrom place_chosen s.memory s.pins user b t place D s.work out a w' out'
      → length w' ≡ length s.work
      → Step s (Call.search_from user b t place D out) (Returned.searched a out') (record { memory = s.memory; work = w'; pins = s.pins })
  folds : {user b t : ℕ} {out w' out' : List ℕ} {a : Answer ℕ}
      → UserFolded Fold.chosen s.memory s.pins user b t s.work out a w' out'
      → length w' ≡ length s.work
      → Step s (Call.fold user b t out) (Returned.folded a out') (record { memory = s.memory; work = w'; pins = s.pins })
  writes : {user form : ℕ} {out out' : List ℕ} {a : Answer ℕ} → UserWritten s.memory user form out a out'
      → Step s (Call.write user form out) (Returned.written a out') s
  previews : {user n : ℕ} {file : List ℕ} {a : Answer (List ℕ)} → UserPreviewed (length s.memory) file user a n
      → Step s (Call.preview user file) (Returned.previewed a n) s
  joins : {user : ℕ} {first second m' p' : List ℕ} {a : Answer (List ℕ)} → UserJoined first second s.memory s.pins user a m' p'
      → Step s (Call.join user first second) (Returned.loaded a) (record { memory = m'; work = s.work; pins = p' })
  replays : {user : ℕ} {witness : List ℕ} {a : Answer Verdict} → UserReplayed s.memory s.pins user witness a
      → Step s (Call.replay user witness) (Returned.replayed a) s
  widens : {user : ℕ} {witness out out' : List ℕ} {a : Answer ℕ} → UserWidened s.memory s.pins user witness out a out'
      → Step s (Call.widen user witness out) (Returned.written a out') s
  waveforms : {user : ℕ} {only : Bool} {witness out out' : List ℕ} {a : Answer ℕ} → UserWaveformed s.memory user only witness out a out'
      → Step s (Call.waveform user only witness out) (Returned.written a out') s
  generates : {user seed i l a : ℕ} {out out' : List ℕ} {answer : Answer ℕ} → UserGenerated user seed i l a out answer out'
      → Step s (Call.generate user seed i l a out) (Returned.written answer out') s

-- a call that was made, with what it returned
pub record Event : Type 0 where
  pub call : Call
  pub returned : Returned

-- a history: events one after the other, from a state
pub data History : State → List Event → Type 0 where
  ends : {s : State} → History s []
  goes : {s s' : State} {e : Event} {es : List Event} → Step s e.call e.returned s' → History s' es → History s (e ∷ es)

-- two states are the same to user u: they have the same circuit memory and the same pins of user u, and the other memories are as long
pub record Same (u : ℕ) (s t : State) : Type 0 where
  pub memory : s.memory ≡ t.memory
  pub work : length s.work ≡ length t.work
  pub room : length s.pins ≡ length t.pins
  pub own : (i : ℕ) → i < 256 → get_or s.pins (256 * u + i) 2 ≡ get_or t.pins (256 * u + i) 2

-- what a call of user u may leave of a state: working memory is as long as before in any case
abbrev pub Changed : Changes → ℕ → State → State → Type 0
Changed Changes.nothing u s t = (t.memory ≡ s.memory) × (t.pins ≡ s.pins) × (length t.work ≡ length s.work)
Changed Changes.own_pins u s t =
    (t.memory ≡ s.memory) × (t.work ≡ s.work) × (length t.pins ≡ length s.pins)
    × ((i : ℕ) → (256 * u ≤ i → i < 256 * u + 256 → ⊥) → get_or t.pins i 2 ≡ get_or s.pins i 2)
Changed Changes.circuit u s t = (t.work ≡ s.work) × (length t.pins ≡ length s.pins)
