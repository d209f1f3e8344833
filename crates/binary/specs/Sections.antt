-- What reading the latches and the gates of a binary file answers and stores. Clause 12.1. Assumes nothing.
use Rattle.std.specs.Prelude as std
use Rattle.std.specs.Prelude.{◌≡◌, Bool, true, List, [], ◌∷◌, ◌++◌, map, ℕ, zero, suc, ◌+◌, ◌*◌, ◌≤◌, length, take, drop}
use Rattle.std.proofs.Math.Option.{Option, none, some}
use Rattle.std.proofs.lemmas.List.Edits.{sets}
use Rattle.aiger.specs.Lists.{every}
use Rattle.aiger.specs.Text.{row, rows}
use Rattle.aiger.specs.Circuit.{Gate}
use Rattle.aiger.specs.Binary.{latches_from, gate_by, gates_from}
use Rattle.aiger.specs.Memory.{latch_words, gate_words}
use Rattle.lines.specs.Lines.{within, narrowed, padded, on_line}
use Rattle.lines.specs.declared.Rows.{Rows}

-- n latch lines from `at` to `next`, tested, and stored as latches from `from` on if every number is within the limit
pub record LatchesRead (s : List ℕ) (at n v limit : ℕ) (before : List ℕ) (from : ℕ) (after : List ℕ) (next : ℕ) (fits : Bool) : Type 0 where
  pub lines : List (List ℕ)
  pub meaning : rows 1 2 n (drop at s) ≡ some (lines, drop next s)
  pub inside : next ≤ length s
  pub tested : fits ≡ every (within limit) lines
  pub contents : fits ≡ true → after ≡ take from before ++ latch_words (latches_from v lines) ++ drop (from + n * 3) before

abbrev pub LatchesAt : List ℕ → ℕ → ℕ → ℕ → ℕ → List ℕ → ℕ → List ℕ → std.Option Rows → Type 0
LatchesAt s at n v limit before from after (std.Some r) = LatchesRead s at n v limit before from after r.next r.fits
LatchesAt s at n v limit before from after std.None = rows 1 2 n (drop at s) ≡ none

-- the words of the latches from variable v on, by the lines at the front of a text, at most n: what reading n latch lines stores. Of a
-- latch whose line is malformed it is the literal, and there is none after it.
unfoldable pub latches_left : ℕ → ℕ → ℕ → List ℕ → List ℕ
latches_left limit v zero f = []
latches_left limit v (suc n) f =
    2 * v ∷ on_line 1 (row 2 f) (λ r g. map (narrowed limit) (padded 2 r) ++ latches_left limit (suc v) n g)

-- the gate with literal l from `at` to `next`, stored as three words
pub record GateRead (s : List ℕ) (at l : ℕ) (before : List ℕ) (to : ℕ) (after : List ℕ) (next : ℕ) : Type 0 where
  pub gate : Gate
  pub meaning : gate_by l (drop at s) ≡ some (gate, drop next s)
  pub inside : next ≤ length s
  pub contents : after ≡ sets before to (gate_words (gate ∷ []))

abbrev pub GateAt : List ℕ → ℕ → ℕ → List ℕ → ℕ → List ℕ → std.Option ℕ → Type 0
GateAt s at l before to after (std.Some next) = GateRead s at l before to after next
GateAt s at l before to after std.None = (gate_by l (drop at s) ≡ none) × (after ≡ before)

-- n gates from `at` to `next`, stored from `from` on
pub record GatesRead (s : List ℕ) (at n v : ℕ) (before : List ℕ) (from : ℕ) (after : List ℕ) (next : ℕ) : Type 0 where
  pub gates : List Gate
  pub meaning : gates_from v n (drop at s) ≡ some (gates, drop next s)
  pub inside : next ≤ length s
  pub contents : after ≡ take from before ++ gate_words gates ++ drop (from + n * 3) before

abbrev pub GatesAt : List ℕ → ℕ → ℕ → ℕ → List ℕ → ℕ → List ℕ → std.Option ℕ → Type 0
GatesAt s at n v before from after (std.Some next) = GatesRead s at n v before from after next
GatesAt s at n v before from after std.None = gates_from v n (drop at s) ≡ none

-- what follows from a gate and the text after it, and nothing where there is none
abbrev pub on_gate : Option (Gate × List ℕ) → (Gate → List ℕ → List ℕ) → List ℕ
on_gate none more = []
on_gate (some q) more = more q.0 q.1

-- the words of the gates from variable v on at the front of a text, at most n, up to one that is malformed: what reading n gates stores
unfoldable pub gates_left : ℕ → ℕ → List ℕ → List ℕ
gates_left v zero f = []
gates_left v (suc n) f = on_gate (gate_by (2 * v) f) (λ g r. gate_words (g ∷ []) ++ gates_left (suc v) n r)
