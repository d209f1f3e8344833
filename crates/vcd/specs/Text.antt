-- Clause 13.2: the text of a value change dump: its wires' declarations, and after each time mark the values of all wires. Assumes nothing.
use Rattle.std.specs.Prelude.{Bool, cond, List, [], ◌∷◌, ◌++◌, ℕ, zero, suc, ◌+◌, ◌/◌, ◌%◌}
use Rattle.aiger.specs.Text.{bytes, digits}
use Rattle.vcd.specs.declared.Name.{Name}

-- Clause 13.3: the value of a wire in a frame; `either` is for a value that a witness leaves open
pub data Level : Type 0 where
  low : Level
  high : Level
  either : Level

abbrev pub level_of : Bool → Level
level_of b = cond b Level.high Level.low

-- the character of a value
unfoldable pub level_byte : Level → ℕ
level_byte Level.low = 48
level_byte Level.high = 49
level_byte Level.either = 120

-- the identifier of wire k: its number as two digits to the base 94, from the character `!` on
unfoldable pub identifier : ℕ → List ℕ
identifier k = (33 + k / 94) ∷ (33 + k % 94) ∷ []

-- the line that declares wire k with a name
unfoldable pub declaration : ℕ → Name → List ℕ
declaration k n =
    bytes "$var wire 1 " ++ ((identifier k ++ (32 ∷ n.kind ∷ [])) ++ ((digits n.index ++ (32 ∷ [])) ++ bytes "$end\n"))

-- the lines that declare n wires, from wire k on
unfoldable pub declarations : (ℕ → Name) → ℕ → ℕ → List ℕ
declarations name k zero = []
declarations name k (suc n) = declaration k (name k) ++ declarations name (suc k) n

abbrev pub opening : List ℕ
opening = bytes "$timescale 1 ns $end\n$scope module trigger $end\n"

abbrev pub closing : List ℕ
closing = bytes "$upscope $end\n$enddefinitions $end\n"

-- all that stands before the first time mark
unfoldable pub header : (ℕ → Name) → ℕ → List ℕ
header name n = opening ++ (declarations name 0 n ++ closing)

-- the time mark t
unfoldable pub time_mark : ℕ → List ℕ
time_mark t = (35 ∷ []) ++ (digits t ++ (10 ∷ []))

-- the line of wire k with character d for its value
abbrev pub value_with : ℕ → ℕ → List ℕ
value_with k d = (d ∷ []) ++ (identifier k ++ (10 ∷ []))

-- the value of wire k
unfoldable pub value_line : ℕ → Level → List ℕ
value_line k v = value_with k (level_byte v)

-- the values of n wires, from wire k on
unfoldable pub value_lines : (ℕ → Level) → ℕ → ℕ → List ℕ
value_lines level k zero = []
value_lines level k (suc n) = value_line k (level k) ++ value_lines level (suc k) n

-- time mark t, and the values of n wires
unfoldable pub sample : (ℕ → Level) → ℕ → ℕ → List ℕ
sample level n t = time_mark t ++ value_lines level 0 n

-- so many samples of n wires, from time t on, and the time mark that ends the last
unfoldable pub samples : (ℕ → ℕ → Level) → ℕ → ℕ → ℕ → List ℕ
samples level n t zero = time_mark t
samples level n t (suc frames) = sample (level t) n t ++ samples level n (suc t) frames

-- the whole text, where `level t k` is the value of wire k in frame t
unfoldable pub dump : (ℕ → Name) → ℕ → (ℕ → ℕ → Level) → ℕ → List ℕ
dump name n level frames = header name n ++ samples level n 0 frames
