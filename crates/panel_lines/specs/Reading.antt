-- What the functions that read a command answer. A position of a request stands for the rest from there on. Assumes nothing.
use Rattle.std.specs.Prelude as Prelude
use Rattle.std.specs.Prelude.{Some, None, ◌≡◌, Bool, List, ℕ, ◌-◌, ◌≤◌, length, take, drop}
use Rattle.std.proofs.Math.Option.{Option, none, some}
use Rattle.aiger.specs.Text.{◌>>=◌}
use Rattle.panel_lines.specs.Grammar.{Command, split, word, number, seed, place, two_numbers, one_name}
use Rattle.panel_lines.specs.declared.Part.{Part}
use Rattle.panel_lines.specs.declared.Task.{Task}
use Rattle.panel_lines.specs.declared.Task.TheVariants.{Ask, Load, Preview, Join, Witness}
use Rattle.panel_lines.specs.declared.Request.{Request}

-- a part lies in a request
pub record Inside (s : List ℕ) (p : Part) : Type 0 where
  pub forward : p.from ≤ p.to
  pub within : p.to ≤ length s

-- its bytes
abbrev pub bytes_of : List ℕ → Part → List ℕ
bytes_of s p = take (p.to - p.from) (drop p.from s)

-- the word that begins at `from` ends at `end`
pub record Ends (s : List ℕ) (from end : ℕ) : Type 0 where
  pub forward : from ≤ end
  pub within : end ≤ length s
  pub word-is : split (drop from s) ≡ (take (end - from) (drop from s), drop end s)

-- the word after the space at a position
pub record WordAt (s : List ℕ) (at : ℕ) (p : Part) : Type 0 where
  pub inside : Inside s p
  pub word-is : word (drop at s) ≡ some (bytes_of s p, drop p.to s)

abbrev pub WordIs : List ℕ → ℕ → Prelude.Option Part → Type 0
WordIs s at (Some p) = WordAt s at p
WordIs s at None = word (drop at s) ≡ none

-- the number after the space at a position, and where it ends
pub record NumberAt (s : List ℕ) (at n end : ℕ) : Type 0 where
  pub within : end ≤ length s
  pub number_is : number (drop at s) ≡ some (n, drop end s)

abbrev pub NumberIs : List ℕ → ℕ → Prelude.Option (ℕ × ℕ) → Type 0
NumberIs s at (Some n) = NumberAt s at n.0 n.1
NumberIs s at None = number (drop at s) ≡ none

-- the same of a seed
pub record SeedAt (s : List ℕ) (at n end : ℕ) : Type 0 where
  pub within : end ≤ length s
  pub seed-is : seed (drop at s) ≡ some (n, drop end s)

abbrev pub SeedIs : List ℕ → ℕ → Prelude.Option (ℕ × ℕ) → Type 0
SeedIs s at (Some n) = SeedAt s at n.0 n.1
SeedIs s at None = seed (drop at s) ≡ none

-- the same of a place
pub record PlaceAt (s : List ℕ) (at n end : ℕ) : Type 0 where
  pub within : end ≤ length s
  pub place_is : place (drop at s) ≡ some (n, drop end s)

abbrev pub PlaceIs : List ℕ → ℕ → Prelude.Option (ℕ × ℕ) → Type 0
PlaceIs s at (Some n) = PlaceAt s at n.0 n.1
PlaceIs s at None = place (drop at s) ≡ none

-- the word that is the only one left
pub record NameAt (s : List ℕ) (at : ℕ) (p : Part) : Type 0 where
  pub inside : Inside s p
  pub name-is : one_name (drop at s) ≡ some (bytes_of s p)

abbrev pub NameIs : List ℕ → ℕ → Prelude.Option Part → Type 0
NameIs s at (Some p) = NameAt s at p
NameIs s at None = one_name (drop at s) ≡ none

-- the command that a task is: parts of the request are names of files
abbrev pub task_of : List ℕ → Prelude.Option Task → Option Command
task_of s (Some (Ask q)) = some (Command.query q)
task_of s (Some (Load p)) = some (Command.load (bytes_of s p))
task_of s (Some (Preview p)) = some (Command.preview (bytes_of s p))
task_of s (Some (Join p q)) = some (Command.join (bytes_of s p) (bytes_of s q))
task_of s (Some (Witness v p)) = some (Command.view v (bytes_of s p))
task_of s None = none

abbrev pub PartsInside : List ℕ → Prelude.Option Task → Type 0
PartsInside s (Some (Ask q)) = Unit {0}
PartsInside s (Some (Load p)) = Inside s p
PartsInside s (Some (Preview p)) = Inside s p
PartsInside s (Some (Join p q)) = Inside s p × Inside s q
PartsInside s (Some (Witness v p)) = Inside s p
PartsInside s None = Unit {0}

-- a task is a command, and its parts lie in the request
pub record TaskIs (s : List ℕ) (c : Option Command) (t : Prelude.Option Task) : Type 0 where
  pub meaning : task_of s t ≡ c
  pub parts : PartsInside s t

-- the user and the command of a request that was read, and the parts of its task
abbrev pub request_of : List ℕ → Prelude.Option Request → Option (ℕ × Command)
request_of s (Some r) = task_of s (Some r.task) >>= λ t. some (r.user, t)
request_of s None = none

abbrev pub RequestInside : List ℕ → Prelude.Option Request → Type 0
RequestInside s (Some r) = PartsInside s (Some r.task)
RequestInside s None = Unit {0}

-- user and task are those of a request
pub record RequestIs (s : List ℕ) (c : Option (ℕ × Command)) (r : Prelude.Option Request) : Type 0 where
  pub meaning : request_of s r ≡ c
  pub parts : RequestInside s r
