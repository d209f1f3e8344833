-- What reading a line of bits at a position of a text answers. Assumes nothing.
use Rattle.std.specs.Prelude.{◌≡◌, Bool, List, map, ℕ, ◌+◌, ◌≤◌, eqb, length, get_or, drop}
use Rattle.std.proofs.Math.Option.{Option, none, some}
use Rattle.aiger.specs.Lists.{from}
use Rattle.aiger.specs.Witness.{bits}
use Rattle.witness.specs.declared.Bits.{Bits}
use Rattle.witness.specs.declared.Bits.TheVariants.{Read, Malformed}

-- count bytes from `at` on, as bits
abbrev pub values : List ℕ → ℕ → ℕ → List Bool
values text at count = map (λ p. eqb (get_or text p 0) 49) (from at count)

-- an answer on a text, as `bits` has it
abbrev pub meant : List ℕ → ℕ → ℕ → Bits → Option (List Bool × List ℕ)
meant text at count (Read next) = some (values text at count, drop next text)
meant text at count Malformed = none

-- where reading ended, in the text
pub record Within (text : List ℕ) (at count next : ℕ) : Type 0 where
  pub past : next ≡ at + count + 1
  pub inside : next ≤ length text

abbrev pub Placed : List ℕ → ℕ → ℕ → Bits → Type 0
Placed text at count (Read next) = Within text at count next
Placed text at count Malformed = Unit {0}

-- r is the line of count bits that stands at `at`
pub record LineAt (text : List ℕ) (at count : ℕ) (r : Bits) : Type 0 where
  pub meaning : meant text at count r ≡ bits count (drop at text)
  pub place : Placed text at count r
