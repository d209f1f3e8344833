-- The file: its header, its lines and its tail. Assumes nothing.
use Rattle.std.specs.Prelude.{Bool, true, false, not, ◌&&◌, ◌||◌, List, [], ◌∷◌, map, ℕ, ◌+◌, leb, eqb, length, get_or, take, drop}
use Rattle.std.proofs.Math.Option.{Option, none, some}
use Rattle.aiger.specs.Lists.{all, same}
use Rattle.aiger.specs.Text.{bytes, row, rows, ◌>>=◌, ◌>>◌, when}
use Rattle.aiger.specs.Circuit.{Circuit, Latch, Gate}

pub record Header : Type 0 where
  pub M : ℕ
  pub I : ℕ
  pub L : ℕ
  pub O : ℕ
  pub A : ℕ
  pub B : ℕ
  pub C : ℕ
  pub J : ℕ
  pub F : ℕ

-- Clause 1.3: the nine numbers of a header, 0 for those that are left out
abbrev pub counts : List ℕ → Header
counts n =
    record {
      M = get_or n 0 0;
      I = get_or n 1 0;
      L = get_or n 2 0;
      O = get_or n 3 0;
      A = get_or n 4 0;
      B = get_or n 5 0;
      C = get_or n 6 0;
      J = get_or n 7 0;
      F = get_or n 8 0;
    }

-- Clause 1.3: the header's first word in text form
unfoldable pub is_text : List ℕ → Bool
is_text f = same (take 4 f) (bytes "aag ")

-- Clause 12.1: the header's first word in binary form
unfoldable pub is_binary : List ℕ → Bool
is_binary f = same (take 4 f) (bytes "aig ")

-- a header whose first word is right, where `named` says so: its numbers, and the bytes after it
abbrev pub heading : Bool → List ℕ → Option (Header × List ℕ)
heading named f = do
  when named
  n ← row 9 (drop 4 f)
  when (leb 5 (length n.0))
  some (counts n.0, n.1)

-- Clauses 1.3 and 12.1: the header, `aag` or `aig` and its numbers
unfoldable pub header : List ℕ → Option (Header × List ℕ)
header f = heading (is_text f || is_binary f) f

-- Clause 1.3: the header of a file in text form
unfoldable pub text_header : List ℕ → Option (Header × List ℕ)
text_header f = heading (is_text f) f

-- Clause 1.11: the greatest counts
abbrev pub count_tests : Header → List Bool
count_tests h =
    leb h.M 4096 ∷ leb h.I 256 ∷ leb h.L 1024 ∷ leb h.O 64 ∷ leb h.A 3072 ∷ leb h.B 16 ∷ leb h.C 16
    ∷ eqb h.J 0 ∷ eqb h.F 0
    ∷ leb (h.I + h.L + h.A) h.M ∷ []

-- Clause 6.1, number 3: no count is too large
unfoldable pub counts_fit : Header → Bool
counts_fit h = all (count_tests h)

-- Clauses 6.1 and 12.1, number 3: no count is too large, and in binary form every variable has a definition
unfoldable pub counts_right : Bool → Header → Bool
counts_right binary h = counts_fit h && (not binary || eqb (h.I + h.L + h.A) h.M)

-- the counts of a circuit
abbrev pub header_of : Circuit → Header
header_of c =
    record {
      M = c.max_var;
      I = length c.inputs;
      L = length c.latches;
      O = length c.outputs;
      A = length c.gates;
      B = length c.bads;
      C = length c.constraints;
      J = 0;
      F = 0;
    }

-- Clause 1.7: nothing follows, or a line `c` and then any bytes
unfoldable pub is_tail : List ℕ → Bool
is_tail [] = true
is_tail (c ∷ f) = same (take 2 (c ∷ f)) (bytes "c\n")

abbrev pub first : List ℕ → ℕ
first r = get_or r 0 0

-- a missing reset is 0
abbrev pub latch : List ℕ → Latch
latch r = record { lit = get_or r 0 0; next = get_or r 1 0; reset = get_or r 2 0 }

abbrev pub gate : List ℕ → Gate
gate r = record { lit = get_or r 0 0; left = get_or r 1 0; right = get_or r 2 0 }

-- Clause 1.4: the sections in their order, a line for each entry
unfoldable pub body : Header → List ℕ → Option Circuit
body h f = do
  i ← rows 1 1 h.I f
  l ← rows 2 3 h.L i.1
  o ← rows 1 1 h.O l.1
  b ← rows 1 1 h.B o.1
  c ← rows 1 1 h.C b.1
  g ← rows 3 3 h.A c.1
  when (is_tail g.1)
  some
      (record {
        max_var = h.M;
        inputs = map first i.0;
        latches = map latch l.0;
        outputs = map first o.0;
        bads = map first b.0;
        constraints = map first c.0;
        gates = map gate g.0;
      })
