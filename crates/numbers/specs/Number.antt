-- What reading a number at a position of a text answers. Assumes nothing.
use Rattle.std.specs.Prelude.{◌≡◌, Option, Some, None, List, ℕ, ◌^◌, ◌≤◌, ◌<◌, T, length, take, drop}
use Rattle.aiger.specs.Lists.{every}
use Rattle.aiger.specs.Text.{Token, spaced, ended, malformed, token, is_digit}
use Rattle.numbers.specs.declared.Number.{Number}
use Rattle.numbers.specs.declared.Number.TheVariants.{Spaced, Ended}

-- an answer on a text, as a token
abbrev pub meant : List ℕ → Option Number → Token
meant s (Some (Spaced v next)) = spaced v (drop next s)
meant s (Some (Ended v next)) = ended v (drop next s)
meant s None = malformed

-- where reading ended, past `at` and in the text, and how large the value is
pub record Within (s : List ℕ) (at v next : ℕ) : Type 0 where
  pub past : at < next
  pub inside : next ≤ length s
  pub small : v < 10 ^ 10

abbrev pub Placed : List ℕ → ℕ → Option Number → Type 0
Placed s at (Some (Spaced v next)) = Within s at v next
Placed s at (Some (Ended v next)) = Within s at v next
Placed s at None = Unit {0}

-- r is the number that stands at `at` in s
pub record NumberAt (s : List ℕ) (at : ℕ) (r : Option Number) : Type 0 where
  pub meaning : meant s r ≡ token (drop at s)
  pub place : Placed s at r

-- count bytes of a text from `at` on
abbrev pub part : List ℕ → ℕ → ℕ → List ℕ
part s at count = take count (drop at s)

-- they are in the text and digits, ten at most
pub record Digits (s : List ℕ) (at count : ℕ) : Type 0 where
  pub few : count ≤ 10
  pub held : count ≤ length (drop at s)
  pub all : T (every is_digit (take count (drop at s)))
