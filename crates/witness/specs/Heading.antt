-- What reading the first two lines of a witness answers. Assumes nothing.
use Rattle.std.specs.Prelude.{◌≡◌, List, ℕ, ◌^◌, ◌≤◌, ◌<◌, length, take, drop}
use Rattle.std.proofs.Math.Option.{Option, none, some}
use Rattle.aiger.specs.Lists.{same}
use Rattle.aiger.specs.Text.{bytes, token, on_token, ◌>>◌, when}
use Rattle.witness.specs.declared.Heading.{Heading}
use Rattle.witness.specs.declared.Heading.TheVariants.{Read, Malformed}

-- the lines `1` and `b` with a number, and the bytes after them
unfoldable pub heading : List ℕ → Option (ℕ × List ℕ)
heading w = when (same (take 3 w) (bytes "1\nb")) >> on_token (token (drop 3 w)) (λ b f. none) (λ b f. some (b, f))

-- an answer on a text, as `heading` has it
abbrev pub meant : List ℕ → Heading → Option (ℕ × List ℕ)
meant text (Read b next) = some (b, drop next text)
meant text Malformed = none

-- where reading ended, in the text, and how large the number is
pub record Within (text : List ℕ) (b next : ℕ) : Type 0 where
  pub inside : next ≤ length text
  pub small : b < 10 ^ 10

abbrev pub Placed : List ℕ → Heading → Type 0
Placed text (Read b next) = Within text b next
Placed text Malformed = Unit {0}

-- r is what the first two lines of a text say
pub record HeadingAt (text : List ℕ) (r : Heading) : Type 0 where
  pub meaning : meant text r ≡ heading text
  pub place : Placed text r
