-- Clause 12.17: what happens to a bench, one thing after the other. The circuit memory is lent, so its owner may overwrite it between two
-- turns: each turn names the circuit that it met. Assumes nothing.
use Rattle.std.specs.Prelude.{◌≡◌, Bool, true, false, cond, ◌&&◌, List, [], ◌∷◌, ℕ, ◌+◌, ◌^◌, T, leb, eqb}
use Rattle.std.proofs.Math.Option.{Option, none, some}
use Rattle.aiger.specs.Lists.{every, tally}
use Rattle.aiger.specs.Circuit.{Circuit}
use Rattle.aiger.specs.Frames.{free_bits}
use Rattle.aiger.specs.Search.{reaches}
use Rattle.aiger.specs.Operations.{budget_right}
use Rattle.place_search.specs.Places.{Placed, answers}
use Rattle.benches.specs.declared.Entry.{Entry}
use Rattle.benches.specs.Bench.{Bench, ended, is_free, queued, allowed, turn_of, grant_of, turned}

-- an accepted queue or allow; a turn that was granted, with the circuit that it met (under pins the pinned one), its number, its grant and
-- what its search answered; an idle turn; the end of the bench by an accepted load, join or pin call; the circuit memory overwritten; and
-- anything else: refused calls, other operations, and calls of the other user
pub data Event : Type 0 where
  queue : (n b k D : ℕ) → Event
  allow : (amount : ℕ) → Event
  turn : (c : Circuit) (n grant : ℕ) (a : Placed) → Event
  idle : Event
  ends : Event
  overwritten : Event
  other : Event

-- what a search answers in a turn is a function `chosen` of circuit, b, frame, place and grant, and one of the answers that a search of
-- that frame from that place may give
pub record Answered (chosen : Circuit → ℕ → ℕ → ℕ → ℕ → Placed) (c : Circuit) (e : Entry) (grant : ℕ) (a : Placed) : Type 0 where
  pub chose : a ≡ chosen c e.b e.frame e.place grant
  pub permitted : T (answers (reaches c e.b e.frame) (2 ^ free_bits c e.frame) e.place grant a)

module _ (chosen : Circuit → ℕ → ℕ → ℕ → ℕ → Placed) where
  -- what an event leaves of a bench
  pub data Step (s : Bench) : Event → Bench → Type 0 where
    queues : {n b k D : ℕ} → T (is_free s n) → T (leb k 255 && budget_right D) → Step s (Event.queue n b k D) (queued s n b k D)
    allows : {amount : ℕ} → T (budget_right amount) → Step s (Event.allow amount) (allowed s amount)
    turns : {c : Circuit} {n grant : ℕ} {a : Placed} → turn_of s ≡ some n → grant ≡ grant_of s n → Answered chosen c (s.entry n) grant a
        → Step s (Event.turn c n grant a) (turned s n grant a)
    idles : turn_of s ≡ none → Step s Event.idle s
    finishes : Step s Event.ends ended
    overwrites : Step s Event.overwritten s
    others : Step s Event.other s

  -- a history: events one after the other, from a bench to a bench
  pub data History : Bench → List Event → Bench → Type 0 where
    stops : {s : Bench} → History s [] s
    goes : {s t u : Bench} {e : Event} {es : List Event} → Step s e t → History t es u → History s (e ∷ es) u

-- ---- what is read off a history

-- the allowance that was last set, 0 where none was set since the bench ended, and the sum of the grants since
pub record Account : Type 0 where
  pub set : ℕ
  pub grants : ℕ

abbrev pub accounted : Account → Event → Account
accounted t (Event.queue n b k D) = t
accounted t (Event.allow amount) = record { set = amount; grants = 0 }
accounted t (Event.turn c n grant a) = record { set = t.set; grants = t.grants + grant }
accounted t Event.idle = t
accounted t Event.ends = record { set = 0; grants = 0 }
accounted t Event.overwritten = t
accounted t Event.other = t

abbrev pub account_of : Account → List Event → Account
account_of t [] = t
account_of t (e ∷ es) = account_of (accounted t e) es

-- a turn that was granted
abbrev pub is_turn : Event → Bool
is_turn (Event.queue n b k D) = false
is_turn (Event.allow amount) = false
is_turn (Event.turn c n grant a) = true
is_turn Event.idle = false
is_turn Event.ends = false
is_turn Event.overwritten = false
is_turn Event.other = false

-- a turn that was granted to number i
abbrev pub is_turn_of : ℕ → Event → Bool
is_turn_of i (Event.queue n b k D) = false
is_turn_of i (Event.allow amount) = false
is_turn_of i (Event.turn c n grant a) = eqb n i
is_turn_of i Event.idle = false
is_turn_of i Event.ends = false
is_turn_of i Event.overwritten = false
is_turn_of i Event.other = false

-- the bench did not end
abbrev pub lasts : Event → Bool
lasts (Event.queue n b k D) = true
lasts (Event.allow amount) = true
lasts (Event.turn c n grant a) = true
lasts Event.idle = true
lasts Event.ends = false
lasts Event.overwritten = true
lasts Event.other = true

-- every turn of number i met circuit c
abbrev pub MeetsAt : Circuit → ℕ → Event → Type 0
MeetsAt c i (Event.queue n b k D) = Unit {0}
MeetsAt c i (Event.allow amount) = Unit {0}
MeetsAt c i (Event.turn d n grant a) = n ≡ i → d ≡ c
MeetsAt c i Event.idle = Unit {0}
MeetsAt c i Event.ends = Unit {0}
MeetsAt c i Event.overwritten = Unit {0}
MeetsAt c i Event.other = Unit {0}

abbrev pub Meets : Circuit → ℕ → List Event → Type 0
Meets c i [] = Unit {0}
Meets c i (e ∷ es) = MeetsAt c i e × Meets c i es
