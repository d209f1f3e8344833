-- Clause 12.1: the parts of a file in binary form: differences in groups of seven bits, implied literals, and gates by differences.
-- Assumes nothing.
use Rattle.std.specs.Prelude.{Bool, cond, ◌&&◌, List, [], ◌∷◌, ℕ, zero, suc, ◌+◌, ◌-◌, ◌*◌, ◌/◌, ◌%◌, ◌^◌, leb, ltb, get_or}
use Rattle.std.proofs.Math.Option.{Option, none, some}
use Rattle.aiger.specs.Text.{◌>>=◌, ◌>>◌, when}
use Rattle.aiger.specs.Circuit.{Latch, Gate}

-- A number to the base 128, its digits from the least on, a byte each, with 128 added where another digit follows. The number at the
-- front, of n digits at most, and the bytes after it
unfoldable pub groups : ℕ → List ℕ → Option (ℕ × List ℕ)
groups zero f = none
groups (suc n) [] = none
groups (suc n) (b ∷ f) = cond (ltb b 128) (some (b, f)) (groups n f >>= λ r. some ((b - 128) + 128 * r.0, r.1))

-- a difference: five groups at most, and 32 bits at most; more groups than the number needs are accepted
unfoldable pub difference : List ℕ → Option (ℕ × List ℕ)
difference f = groups 5 f >>= λ r. when (ltb r.0 (2 ^ 32)) >> some r

-- a number in the fewest groups, k + 1 at most
unfoldable pub grouped : ℕ → ℕ → List ℕ
grouped zero n = n ∷ []
grouped (suc k) n = cond (ltb n 128) (n ∷ []) ((128 + n % 128) ∷ grouped k (n / 128))

-- a difference, written
abbrev pub difference_text : ℕ → List ℕ
difference_text n = grouped 4 n

-- the literals of n variables from v on: those of the inputs are implied
unfoldable pub implied : ℕ → ℕ → List ℕ
implied v zero = []
implied v (suc n) = 2 * v ∷ implied (suc v) n

-- latches from variable v on: a line has the next literal and then, or not, the reset
unfoldable pub latches_from : ℕ → List (List ℕ) → List Latch
latches_from v [] = []
latches_from v (r ∷ rs) = record { lit = 2 * v; next = get_or r 0 0; reset = get_or r 1 0 } ∷ latches_from (suc v) rs

-- a gate with literal l by its two differences: the first operand is below the gate and not below 0, the second not above the first and not
-- below 0
unfoldable pub gate_by : ℕ → List ℕ → Option (Gate × List ℕ)
gate_by l f = do
  d ← difference f
  when (leb 1 d.0 && leb d.0 l)
  e ← difference d.1
  when (leb e.0 (l - d.0))
  some (record { lit = l; left = l - d.0; right = l - d.0 - e.0 }, e.1)

-- n gates from variable v on, and the bytes after them
unfoldable pub gates_from : ℕ → ℕ → List ℕ → Option (List Gate × List ℕ)
gates_from v zero f = some ([], f)
gates_from v (suc n) f = do
  g ← gate_by (2 * v) f
  gs ← gates_from (suc v) n g.1
  some (g.0 ∷ gs.0, gs.1)
