-- Which parts of a request are names of files. Assumes nothing.
use Rattle.std.specs.Prelude.{List, [], ◌∷◌, ℕ}
use Rattle.std.proofs.Math.Option.{Option, none, some}
use Rattle.panel_lines.specs.Grammar.{Command}
use Rattle.panel_lines.specs.Reading.{Inside, bytes_of}
use Rattle.panel_names.specs.declared.Names.{Names}
use Rattle.panel_names.specs.declared.Names.TheVariants.{Zero, One, Two}

-- the files that a command names
abbrev pub files_of : Command → List (List ℕ)
files_of (Command.query q) = []
files_of (Command.load file) = file ∷ []
files_of (Command.preview file) = file ∷ []
files_of (Command.join old new) = old ∷ new ∷ []
files_of (Command.view v file) = file ∷ []

-- the files that a request names; one that is no command names none
abbrev pub named_by : Option (ℕ × Command) → List (List ℕ)
named_by none = []
named_by (some r) = files_of r.1

-- the same, as parts of the request
abbrev pub names_of : List ℕ → Names → List (List ℕ)
names_of s Zero = []
names_of s (One p) = bytes_of s p ∷ []
names_of s (Two p q) = bytes_of s p ∷ bytes_of s q ∷ []

-- they lie in the request
abbrev pub NamesInside : List ℕ → Names → Type 0
NamesInside s Zero = Unit {0}
NamesInside s (One p) = Inside s p
NamesInside s (Two p q) = Inside s p × Inside s q
