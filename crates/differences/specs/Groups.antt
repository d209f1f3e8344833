-- What reading a difference answers, and where one is written. Assumes nothing.
use Rattle.std.specs.Prelude as std
use Rattle.std.specs.Prelude.{◌≡◌, List, ◌++◌, ℕ, ◌+◌, ◌≤◌, ◌<◌, length, take, drop}
use Rattle.std.proofs.Math.Option.{Option, none, some}
use Rattle.aiger.specs.Binary.{difference}
use Rattle.differences.specs.declared.Difference.{Difference}

-- out' is the output with the text at `at`, and end the position past the text
abbrev pub Placed-in : List ℕ → ℕ → List ℕ → ℕ → List ℕ → Type 0
Placed-in out at text end out' = (end ≡ at + length text) × (out' ≡ take at out ++ text ++ drop (at + length text) out)

-- an answer on a text
abbrev pub meant : List ℕ → std.Option Difference → Option (ℕ × List ℕ)
meant s (std.Some d) = some (d.value, drop d.next s)
meant s std.None = none

abbrev pub Placed : List ℕ → ℕ → std.Option Difference → Type 0
Placed s at (std.Some d) = (at < d.next) × (d.next ≤ length s)
Placed s at std.None = Unit {0}

-- r is the difference that stands at `at` in s
pub record DifferenceAt (s : List ℕ) (at : ℕ) (r : std.Option Difference) : Type 0 where
  pub meaning : meant s r ≡ difference (drop at s)
  pub place : Placed s at r
