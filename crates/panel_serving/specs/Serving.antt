-- Clause 12.7: a request is one turn. Assumes nothing.
use Rattle.std.specs.Prelude.{◌≡◌, ℕ, ◌+◌, ◌<◌, Bool, true, false, cond, ◌⊎◌, List, length, take}
use Rattle.call_forms.specs.History.{State}
use Rattle.panel_input.specs.declared.gathering.RequestLine.{RequestLine}
use Rattle.panel_session.specs.Session.{Files, Totals, one_more}
use Rattle.panel_session.specs.Answered.{Answered}
use Rattle.panel_session.specs.declared.Response.{Response}
use Rattle.input.specs.Contents.{text_of}
use Rattle.panel_fetching.specs.Fetching.{Fetches}
use Rattle.panel_fetching.specs.declared.Fetched.{Fetched}
use Rattle.panel_serving.specs.declared.serving.Served.{Served}
use Rattle.panel_serving.specs.declared.turning.Resident.{Resident}
use Rattle.panel_serving.specs.declared.turning.Tally.{Tally}
use Rattle.panel_serving.specs.declared.turning.Turned.{Turned}

-- the bytes that were read for a request
abbrev pub files_read : Fetched → Files
files_read r = cond r.failed Files.missing (Files.read (text_of r.old.content) (text_of r.new.content))

-- the state that a resident holds, with a working memory
abbrev pub state_of : Resident → List ℕ → State
state_of r work = record { memory = r.memory; work = work; pins = r.pins }

-- the lengths of its memories
pub record Sized (r : Resident) : Type 0 where
  pub memory : length r.memory ≡ 33032
  pub pins : length r.pins ≡ 512

-- a request that was read: the files that it names are read, and what is printed is the answer to it with the bytes that were read
pub record Serves (request : List ℕ) (s : State) (out : List ℕ) (r : Served) (s' : State) (out' : List ℕ) : Type 0 where
  pub fetches : Fetches request r.fetched
  pub answered : Answered request (files_read r.fetched) s out r.told.response s' out'

-- one turn of the loop: the line of a request could not be read, and this is answered; nothing more is to be had of the input, and nothing
-- is printed; or a request was read and is served
pub data Turns (s : State) (out : List ℕ) (r : Turned) : State → List ℕ → Type 0 where
  unread : {s' : State} {out' : List ℕ} → r.request.failed ≡ true
      → Answered (take r.request.count r.request.line) Files.unread s out r.served.told.response s' out'
      → Turns s out r s' out'
  ends : r.request.failed ≡ false → r.request.ended ≡ true → r.served.told.response.count ≡ 0 → r.served.told.response.out ≡ 0
      → Turns s out r s out
  serves : {s' : State} {out' : List ℕ} → r.request.failed ≡ false → r.request.ended ≡ false
      → Serves (take r.request.count r.request.line) s out r.served s' out' → Turns s out r s' out'

-- what was counted so far
abbrev pub totals_of : Tally → Totals
totals_of t = record { requests = t.requests; asked = t.asked; told = t.told }

-- the totals after a turn: a request more, that was read or whose line could not be read, or none where nothing more was to be had
abbrev pub tallied : Totals → RequestLine → Response → Totals
tallied n q r =
    cond q.failed (one_more n q.count (r.count + r.out)) (cond q.ended n (one_more n q.count (r.count + r.out)))

-- the session is over: nothing more is to be had of the input, or no request more can be counted
abbrev pub Over : Turned → Type 0
Over t = (t.request.ended ≡ true) ⊎ (t.after.tally.requests ≡ 18446744073709551615)

-- whether the session goes on after a turn
pub record GoesOn (t : Turned) (b : Bool) : Type 0 where
  pub more : b ≡ true → (t.request.ended ≡ false) × (t.after.tally.requests < 18446744073709551615)
  pub over : b ≡ false → Over t
