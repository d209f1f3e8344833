-- Clause 12.17: a bench of searches on one allowance, and what becomes of it. Assumes nothing.
use Rattle.std.specs.Prelude.{Bool, cond, ◌&&◌, ℕ, zero, suc, ◌+◌, ◌-◌, ◌%◌, min, leb, ltb, eqb}
use Rattle.std.proofs.Math.Option.{Option, none, some}
use Rattle.place_search.specs.Places.{Placed}
use Rattle.benches.specs.declared.Entry.{Entry}

-- what is left of the allowance, the number at which the next turn begins to look, and the search of each number
pub record Bench : Type 0 where
  pub allowance : ℕ
  pub next : ℕ
  pub entry : ℕ → Entry

-- a number that is not in use
abbrev pub no_entry : Entry
no_entry = record { stage = 0; b = 0; k = 0; budget = 0; frame = 0; place = 0 }

-- Clause 12.17: a bench that has ended: no search, no allowance, and the order begins at 0
abbrev pub ended : Bench
ended = record { allowance = 0; next = 0; entry = λ n. no_entry }

-- number n may be queued: it is below 16 and not in use. A finished search uses its number
abbrev pub is_free : Bench → ℕ → Bool
is_free s n = ltb n 16 && eqb (s.entry n).stage 0

-- the searches with that of number n replaced
abbrev pub replaced : (ℕ → Entry) → ℕ → Entry → ℕ → Entry
replaced entry n e i = cond (eqb i n) e (entry i)

-- a search that is queued begins at place 0 of frame 0
abbrev pub fresh : ℕ → ℕ → ℕ → Entry
fresh b k D = record { stage = 1; b = b; k = k; budget = D; frame = 0; place = 0 }

abbrev pub queued : Bench → ℕ → ℕ → ℕ → ℕ → Bench
queued s n b k D = record { allowance = s.allowance; next = s.next; entry = replaced s.entry n (fresh b k D) }

-- the allowance is set, whatever was left of it
abbrev pub allowed : Bench → ℕ → Bench
allowed s amount = record { allowance = amount; next = s.next; entry = s.entry }

-- ---- turns

-- a search waits for a turn: it is unfinished, with budget outstanding
abbrev pub is_waiting : Entry → Bool
is_waiting e = eqb e.stage 1 && leb 1 e.budget

abbrev pub waits : Bench → ℕ → Bool
waits s n = is_waiting (s.entry n)

-- the number after n in cyclic order
abbrev pub after : ℕ → ℕ
after n = (n + 1) % 16

-- the first of m numbers, from n on in cyclic order, that passes
unfoldable pub first_of : (ℕ → Bool) → ℕ → ℕ → Option ℕ
first_of p n zero = none
first_of p n (suc m) = cond (p n) (some n) (first_of p (after n) m)

-- Clause 12.17: whose turn it is; a turn is idle where no allowance is left or no search waits
unfoldable pub turn_of : Bench → Option ℕ
turn_of s = cond (eqb s.allowance 0) none (first_of (waits s) s.next 16)

-- Clause 12.17: the grant is the smallest of 1,024, the search's budget and the allowance
abbrev pub grant_of : Bench → ℕ → ℕ
grant_of s n = min 1024 (min (s.entry n).budget s.allowance)

-- a search after a turn at another stage, frame or place: the grant is taken from its budget in any case
abbrev pub moved : Entry → ℕ → ℕ → ℕ → ℕ → Entry
moved e grant stage frame place =
    record { stage = stage; b = e.b; k = e.k; budget = e.budget - grant; frame = frame; place = place }

-- Clause 12.17: a hit, or the last frame done without one, finishes the search. Another frame done without a hit sends its next turn to
-- place 0 of the following frame, and a frame that is spent to the place that was reached
abbrev pub entry_after : Entry → ℕ → Placed → Entry
entry_after e grant (Placed.hit x) = moved e grant 2 e.frame e.place
entry_after e grant Placed.clear = cond (ltb e.frame e.k) (moved e grant 1 (e.frame + 1) 0) (moved e grant 3 e.frame e.place)
entry_after e grant (Placed.spent R) = moved e grant 1 e.frame R

-- the bench after a turn of number n whose search answered a
abbrev pub turned : Bench → ℕ → ℕ → Placed → Bench
turned s n grant a =
    record {
      allowance = s.allowance - grant;
      next = after n;
      entry = replaced s.entry n (entry_after (s.entry n) grant a);
    }
