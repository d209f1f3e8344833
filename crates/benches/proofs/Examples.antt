-- Clause 12.17: benches worked through. Assumes nothing.
use mathlib.Core.Path.{◌≡◌, refl}
use mathlib.Core.Bool.{true, false}
use mathlib.Core.Option.{Option, none, some}
use Prim.Native.Nat.{ℕ, ◌-◌}
use Rattle.place_search.specs.Places.{Placed}
use Rattle.benches.specs.declared.Entry.{Entry}
use Rattle.benches.specs.Bench.{Bench, no_entry, is_free, first_of, turn_of, grant_of, entry_after, queued, allowed, turned, ended}

abbrev entry : ℕ → ℕ → ℕ → ℕ → ℕ → Entry
entry stage k budget frame place = record { stage = stage; b = 2; k = k; budget = budget; frame = frame; place = place }

-- the grant is taken from the budget whatever the answer
pub budget-taken : (e : Entry) (grant : ℕ) (x R : ℕ)
    → ((entry_after e grant (Placed.hit x)).budget ≡ e.budget - grant) × ((entry_after e grant (Placed.spent R)).budget ≡ e.budget - grant)
budget-taken e grant x R = (refl, refl)

-- frame 3 of 5 and the last frame after a hit, done without one, and spent
pub middle : (entry_after (entry 1 5 2000 3 70) 1024 (Placed.hit 81) ≡ entry 2 5 976 3 70)
    × (entry_after (entry 1 5 2000 3 70) 1024 Placed.clear ≡ entry 1 5 976 4 0)
    × (entry_after (entry 1 5 2000 3 70) 1024 (Placed.spent 5000) ≡ entry 1 5 976 3 5000)
middle = (refl, refl, refl)

pub at_last : (entry_after (entry 1 5 30 5 70) 30 (Placed.hit 81) ≡ entry 2 5 0 5 70)
    × (entry_after (entry 1 5 30 5 70) 30 Placed.clear ≡ entry 3 5 0 5 70)
    × (entry_after (entry 1 5 30 5 70) 30 (Placed.spent 100) ≡ entry 1 5 0 5 100)
at_last = (refl, refl, refl)

-- an allowance of 1,500, and searches with budgets of 1 and 9,000
abbrev start : Bench
start = queued (queued (allowed ended 1500) 2 0 5 1) 14 1 5 9000

abbrev first : Bench
first = turned start 2 1 (Placed.spent 1)

abbrev second : Bench
second = turned first 14 1024 Placed.clear

abbrev third : Bench
third = turned second 14 475 (Placed.spent 2000)

-- turns in order: 2 until its budget is used up, and 14 until the allowance is
pub in_order : (turn_of start ≡ some 2) × (grant_of start 2 ≡ 1) × (turn_of first ≡ some 14) × (grant_of first 14 ≡ 1024) × (turn_of second ≡ some 14)
    × (grant_of second 14 ≡ 475) × (turn_of third ≡ none)
unfolding turn_of first_of
in_order = (refl, refl, refl, refl, refl, refl, refl)

-- another allowance, in place of what was left: number 14 goes on at the place that it reached in frame 1
pub set-again : ((allowed third 20).allowance ≡ 20) × (turn_of (allowed third 20) ≡ some 14) × ((allowed third 20).entry 14 ≡ record { stage = 1; b = 1; k = 5; budget = 7501; frame = 1; place = 2000 })
unfolding turn_of first_of
set-again = (refl, refl, refl)

-- a finished search gets no turn, and its number cannot be queued; neither can 16
pub finished : (turn_of (turned start 2 1 (Placed.hit 0)) ≡ some 14) × (is_free (turned start 2 1 (Placed.hit 0)) 2 ≡ false)
    × (is_free (turned (queued (allowed ended 9) 2 0 0 5) 2 5 Placed.clear) 2 ≡ false) × (is_free start 16 ≡ false) × (is_free start 3 ≡ true)
unfolding turn_of first_of
finished = (refl, refl, refl, refl, refl)
