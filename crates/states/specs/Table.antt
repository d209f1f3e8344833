-- The table of states in working memory. Record i stands from word (w + 4) * i on, where a state has w words. Assumes nothing.
use Rattle.std.specs.Prelude.{◌≡◌, Option, Some, None, Bool, true, false, List, ℕ, suc, ◌+◌, ◌*◌, ◌≤◌, ◌<◌, eqb, length, get_or, set}
use Rattle.nodes.specs.Last.{last_before}
use Rattle.machine.specs.Layers.{Entry, state_of, met}
use Rattle.states.specs.Number.{number_at, bucket_of}
use Rattle.states.specs.declared.Table.{Table}

-- word f of record i
abbrev pub field : ℕ → List ℕ → ℕ → ℕ → ℕ
field w records i f = get_or records ((w + 4) * i + f) 0

-- the state of entry i is in bucket h
unfoldable pub in_bucket : Table → List Entry → ℕ → ℕ → Bool
in_bucket p es h i = eqb (bucket_of p.width p.buckets (state_of es i)) h

-- the records hold the states of the entries
pub record States (w : ℕ) (records : List ℕ) (es : List Entry) : Type 0 where
  pub room : (w + 4) * length es ≤ length records
  pub states : (i : ℕ) → i < length es → number_at records ((w + 4) * i + 4) w ≡ state_of es i

-- the first n records are in buckets: head h is one more than the last entry of bucket h, or 0; the link of a record is one more than the
-- entry before it in its bucket, or 0
pub record Linked (p : Table) (records : List ℕ) (es : List Entry) (n : ℕ) : Type 0 where
  pub firsts : (h : ℕ) → h < p.buckets → get_or records ((p.width + 4) * h) 0 ≡ last_before (in_bucket p es h) n
  pub links : (i : ℕ) → i < n
      → field p.width records i 1 ≡ last_before (in_bucket p es (bucket_of p.width p.buckets (state_of es i))) i

-- there is a bucket, and room for the heads of all
pub record Buckets (p : Table) (records : List ℕ) : Type 0 where
  pub some : 0 < p.buckets
  pub few : p.buckets < 4294967296
  pub heads : (p.width + 4) * p.buckets ≤ length records

-- the records hold the states of the entries, in buckets
pub record Stored (p : Table) (records : List ℕ) (es : List Entry) : Type 0 where
  pub held : States p.width records es
  pub buckets : Buckets p records
  pub linked : Linked p records es (length es)

-- the first n records are the same, but for their buckets
abbrev pub Kept : ℕ → ℕ → List ℕ → List ℕ → Type 0
Kept w n r r' = (i f : ℕ) → i < n → 1 < f → f < w + 4 → field w r' i f ≡ field w r i f

-- the words of s stand from `at` on, and the others are the same
pub record Copied (r : List ℕ) (at : ℕ) (s r' : List ℕ) : Type 0 where
  pub here : (i : ℕ) → i < length s → get_or r' (at + i) 0 ≡ get_or s i 0
  pub below : (j : ℕ) → j < at → get_or r' j 0 ≡ get_or r j 0
  pub above : (j : ℕ) → at + length s ≤ j → get_or r' j 0 ≡ get_or r j 0

-- record n is written but for its bucket, and the other words are the same
pub record Put (w : ℕ) (r : List ℕ) (n s parent row : ℕ) (r' : List ℕ) : Type 0 where
  pub long : length r' ≡ length r
  pub below : (j : ℕ) → j < (w + 4) * n + 2 → get_or r' j 0 ≡ get_or r j 0
  pub above : (j : ℕ) → (w + 4) * n + (w + 4) ≤ j → get_or r' j 0 ≡ get_or r j 0
  pub parent_is : field w r' n 2 ≡ parent
  pub row_is : field w r' n 3 ≡ row
  pub state-is : number_at r' ((w + 4) * n + 4) w ≡ s

-- the records with record n in front of bucket h
abbrev pub linked_in : ℕ → List ℕ → ℕ → ℕ → List ℕ
linked_in w r n h = set (set r ((w + 4) * n + 1) (get_or r ((w + 4) * h) 0)) ((w + 4) * h) (n + 1)

-- all buckets are empty, and the other words are the same
pub record Cleared (p : Table) (r r' : List ℕ) : Type 0 where
  pub none : (h : ℕ) → h < p.buckets → get_or r' ((p.width + 4) * h) 0 ≡ 0
  pub others : (j : ℕ) → ((h : ℕ) → j ≡ (p.width + 4) * h → ⊥) → get_or r' j 0 ≡ get_or r j 0

-- the first `count` records are in their buckets, whatever states they hold
pub record Filled (p : Table) (count : ℕ) (r r' : List ℕ) : Type 0 where
  pub kept : Kept p.width count r r'
  pub stored : (es : List Entry) → length es ≡ count → States p.width r es → Stored p r' es

-- how many states were met; None where there are more than there may be
abbrev pub Tally : Type 0
Tally = Option ℕ

-- that number, but not more than one more than quota
abbrev pub count_of : ℕ → Tally → ℕ
count_of quota (Some n) = n
count_of quota None = quota + 1

-- there are quota records at most
abbrev pub TallyFits : ℕ → Tally → Type 0
TallyFits quota (Some n) = n ≤ quota
TallyFits quota None = Unit {0}

-- the table has room for quota records, and holds count of them if these are not more than quota
pub record Fits (p : Table) (quota count : ℕ) (records : List ℕ) : Type 0 where
  pub quota-room : (p.width + 4) * quota ≤ length records
  pub quota-small : quota < 4294967295
  pub count_small : count ≤ quota + 1
  pub stored : count ≤ quota → (es : List Entry) × (length es ≡ count) × Stored p records es

-- what meeting state s does to the number of records and the records
pub data Meets (p : Table) (quota count s parent row : ℕ) (records : List ℕ) : ℕ → List ℕ → Type 0 where
  lost : quota < count → Meets p quota count s parent row records count records
  again : count ≤ quota → ((es : List Entry) → Stored p records es → met s es ≡ true)
      → Meets p quota count s parent row records count records
  full : count ≡ quota → ((es : List Entry) → Stored p records es → met s es ≡ false)
      → Meets p quota count s parent row records (count + 1) records
  added : count < quota → ((es : List Entry) → Stored p records es → met s es ≡ false) → (put : List ℕ)
      → Put p.width records count s parent row put
      → Meets p quota count s parent row records (count + 1) (linked_in p.width put count (bucket_of p.width p.buckets s))
