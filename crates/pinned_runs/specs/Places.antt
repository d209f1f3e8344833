-- Where the held inputs of a body, the lines of a witness after line `b`, stand, and what the functions say and leave there. Assumes
-- nothing.
use Rattle.std.specs.Prelude.{◌≡◌, Bool, true, cond, ◌&&◌, List, ℕ, ◌+◌, ◌-◌, ◌*◌, ◌%◌, ◌≤◌, leb, ltb, eqb, length, get_or, take, drop}
use Rattle.aiger.specs.Circuit.{Circuit}
use Rattle.completions.specs.Either.{is_either, Verdict}
use Rattle.pins.specs.Pins.{is_held}
use Rattle.pinned_runs.specs.declared.Own.{Own}

-- the pin of place k of a body whose rows stand from `first` to `end`, each with a byte for each of n inputs and one that ends it; 2 where
-- no input stands
unfoldable pub place_pin : (ℕ → ℕ) → ℕ → ℕ → ℕ → ℕ → ℕ
place_pin q first n end k = cond (leb first k && ltb k end && ltb ((k - first) % (n + 1)) n) (q ((k - first) % (n + 1))) 2

-- that of a body of circuit c with so many frames
abbrev pub pin_at : Circuit → (ℕ → ℕ) → ℕ → ℕ → ℕ
pin_at c q frames k =
    let first = length c.latches + 1 in
    let n = length c.inputs in
    place_pin q first n (first + frames * (n + 1)) k

-- byte d at a place with pin p has the pin's value; `loose` is whether `x` will do too
abbrev pub agrees_at : Bool → ℕ → ℕ → Bool
agrees_at loose p d = cond (is_held p) (cond (is_either d) loose (eqb p (cond (eqb d 49) 1 0))) true

-- byte d, or the pin's bit for an `x` at a held place
abbrev pub settled_byte : ℕ → ℕ → ℕ
settled_byte p d = cond (is_held p && is_either d) (48 + p) d

-- w with the pins' bits for each `x` at a held place
pub record Settled (P : ℕ → ℕ) (w left : List ℕ) : Type 0 where
  pub size : length left ≡ length w
  pub at : (k : ℕ) → get_or left k 0 ≡ settled_byte (P k) (get_or w k 0)

-- what all becomes where some completions differ from a pin
abbrev pub demoted : Verdict → Verdict
demoted Verdict.all = Verdict.mixed
demoted Verdict.no = Verdict.no
demoted Verdict.mixed = Verdict.mixed

-- the smaller of two numbers
abbrev pub least : ℕ → ℕ → ℕ
least a b = cond (leb a b) a b

-- the bytes of a user among `len` bytes of pins
abbrev pub own_of : ℕ → ℕ → Own
own_of len user = record { from = least len (256 * user); to = least len (256 * user + 256) }
