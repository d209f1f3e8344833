-- What load answers: the first cause from 1 to 8, each tested over the whole file, or the circuit; 15 is tested with 5. Assumes nothing.
use Rattle.std.specs.Prelude.{Bool, true, false, ◌&&◌, List, map, ℕ, ◌+◌, ◌*◌, leb, length}
use Rattle.std.proofs.Math.Option.{Option, none, some}
use Rattle.aiger.specs.Circuit.{Circuit, literals_right, used_defined, acyclic}
use Rattle.aiger.specs.Text.{rows}
use Rattle.aiger.specs.File.{Header, is_binary, header, text_header, counts_fit, counts_right, is_tail, first, body}
use Rattle.aiger.specs.Binary.{implied, latches_from, gates_from}

-- a value, or the number of a refusal
pub data Answer (A : Type 0) : Type 0 where
  refused : ℕ → Answer A
  gives : A → Answer A

infixl 20 ◌>>=◌ ◌>>◌
-- where the first refuses, so does the whole
abbrev pub ◌>>=◌ : {A B : Type 0} → Answer A → (A → Answer B) → Answer B
refused n >>= f = refused n
gives a >>= f = f a

abbrev pub ◌>>◌ : {A B : Type 0} → Answer A → Answer B → Answer B
a >> b = a >>= λ _. b

-- number n where the test fails
abbrev pub test : ℕ → Bool → Answer (Unit {0})
test n true = gives tt
test n false = refused n

-- number n where there is nothing
abbrev pub read : {A : Type 0} → ℕ → Option A → Answer A
read n none = refused n
read n (some a) = gives a

-- Clause 1.12: how many words of circuit memory a file with greatest variable M needs
abbrev pub needed : ℕ → ℕ
needed M = 8 * (M + 1) + 256

-- Clause 12.1: the sections of a file in binary form: lines of text, then gates by differences, then the tail. The earlier fault
-- counts: 5 for the lines, 15 for the gates, 5 for the tail
unfoldable pub binary_body : Header → List ℕ → Answer Circuit
binary_body h f = do
  l ← read 5 (rows 1 2 h.L f)
  o ← read 5 (rows 1 1 h.O l.1)
  b ← read 5 (rows 1 1 h.B o.1)
  c ← read 5 (rows 1 1 h.C b.1)
  g ← read 15 (gates_from (h.I + h.L + 1) h.A c.1)
  test 5 (is_tail g.1)
  gives
      (record {
        max_var = h.M;
        inputs = implied 1 h.I;
        latches = latches_from (h.I + 1) l.0;
        outputs = map first o.0;
        bads = map first b.0;
        constraints = map first c.0;
        gates = g.0;
      })

-- the sections in either form
unfoldable pub sections : Bool → Header → List ℕ → Answer Circuit
sections true h f = binary_body h f
sections false h f = read 5 (body h f)

-- Clauses 6.1, 6.3 and 12.1: load of file f into a circuit memory of `room` words, test after test over the whole file
unfoldable pub load : ℕ → List ℕ → Answer Circuit
load room f = do
  test 1 (leb 1 (length f) && leb (length f) 65536)
  h ← read 2 (header f)
  test 3 (counts_right (is_binary f) h.0)
  test 4 (leb (needed h.0.M) room)
  c ← sections (is_binary f) h.0 h.1
  test 6 (literals_right c)
  test 7 (used_defined c)
  test 8 (acyclic c)
  gives c

-- load of files in text form alone: load gives the same wherever the first word is not that of the binary form
unfoldable pub load_text : ℕ → List ℕ → Answer Circuit
load_text room f = do
  test 1 (leb 1 (length f) && leb (length f) 65536)
  h ← read 2 (text_header f)
  test 3 (counts_fit h.0)
  test 4 (leb (needed h.0.M) room)
  c ← read 5 (body h.0 h.1)
  test 6 (literals_right c)
  test 7 (used_defined c)
  test 8 (acyclic c)
  gives c
