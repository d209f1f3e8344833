-- What reading the sections of a file answers and stores. Assumes nothing.
use Rattle.std.specs.Prelude.{◌≡◌, Bool, true, false, List, [], ◌∷◌, ◌++◌, ℕ, ◌+◌, ◌*◌, length, drop, replicate}
use Rattle.aiger.specs.Circuit.{Circuit, Latch}
use Rattle.aiger.specs.File.{Header}
use Rattle.aiger.specs.Load.{refused, gives, sections}
use Rattle.aiger.specs.Memory.{content}
use Rattle.layout.specs.Words.{word, content_end}
use Rattle.lines.specs.Lines.{within}
use Rattle.sections.specs.declared.Body.{Body}
use Rattle.sections.specs.declared.Body.TheVariants.{Read, Large, Malformed, Damaged}

-- the counts that the first seven words encode
abbrev pub header_at : List ℕ → Header
header_at w =
    record { M = word w 0; I = word w 1; L = word w 2; O = word w 3; A = word w 4; B = word w 5; C = word w 6; J = 0; F = 0 }

-- Clause 12.1: the numbers of latch lines in binary form, each the next literal and the reset
unfoldable pub latch_numbers : List Latch → List ℕ
latch_numbers [] = []
latch_numbers (l ∷ ls) = l.next ∷ l.reset ∷ latch_numbers ls

-- Clauses 1.4 and 12.1: the numbers in the lines after the header, with 0 for a reset that is not there: in text form all that the content
-- has after the counts; in binary form inputs and gates have no lines, and a latch line is without the latch
unfoldable pub line_numbers : Bool → Circuit → List ℕ
line_numbers false c = drop 7 (content c)
line_numbers true c = latch_numbers c.latches ++ c.outputs ++ c.bads ++ c.constraints

-- Clause 6.1: every number in the lines after the header is at most 2M + 1
unfoldable pub numbers_within : Bool → Circuit → Bool
numbers_within binary c = within (2 * c.max_var + 1) (line_numbers binary c)

-- the sections g after a header h, and the words w that they left: a circuit all of whose numbers are within the limit, its content at the
-- front; a circuit with a number above the limit; a malformed line or tail; or a damaged gate. No two of these hold of one file
abbrev pub BodyAt : Bool → Header → List ℕ → List ℕ → Body → Type 0
BodyAt binary h g w Read =
    (c : Circuit) × (sections binary h g ≡ gives c) × (r : List ℕ) × (w ≡ content c ++ r) × (numbers_within binary c ≡ true)
BodyAt binary h g w Large = (c : Circuit) × (sections binary h g ≡ gives c) × (numbers_within binary c ≡ false)
BodyAt binary h g w Malformed = sections binary h g ≡ refused 5
BodyAt binary h g w Damaged = sections binary h g ≡ refused 15

-- where the sections are read, what they leave of the words w is, past the content, as it was
abbrev pub PastKept : List ℕ → List ℕ → Body → Type 0
PastKept w w₁ Read = drop (content_end w) w₁ ≡ drop (content_end w) w
PastKept w w₁ Large = Unit {0}
PastKept w w₁ Malformed = Unit {0}
PastKept w w₁ Damaged = Unit {0}

-- and else all words are 0
abbrev pub WordsLeft : List ℕ → List ℕ → Body → Type 0
WordsLeft w w₁ Read = PastKept w w₁ Read
WordsLeft w w₁ Large = w₁ ≡ replicate (length w) 0
WordsLeft w w₁ Malformed = w₁ ≡ replicate (length w) 0
WordsLeft w w₁ Damaged = w₁ ≡ replicate (length w) 0
