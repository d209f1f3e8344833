-- Tables of numbers: word v is the number of variable v. Words stored one after the other. Assumes nothing.
use Rattle.std.specs.Prelude.{◌≡◌, List, ◌∷◌, map, ℕ, ◌+◌, ◌≤◌, ◌<◌, T, length}
use Rattle.aiger.specs.Lists.{member}
use Rattle.aiger.specs.Circuit.{Circuit, var, defined}
use Rattle.literals.specs.Literal.{signed}
use Rattle.literals.specs.declared.Lit.{Lit}
use Rattle.layout.specs.Words.{word}
use Rattle.frames.specs.Lanes.{Stored}
use Rattle.joined.specs.Joined.{number_of, literal_under}

-- after has f j at word to + j, for each j below n; the other words are as before
abbrev pub Put : ℕ → (ℕ → ℕ) → ℕ → List ℕ → List ℕ → Type 0
Put to f n before after = Stored (λ j. to + j) f n before after

-- the variables of n literals from `at` on are in the table, with numbers of at most 4,096
abbrev pub Within : List ℕ → ℕ → ℕ → List ℕ → Type 0
Within m at n names = (j : ℕ) → j < n → (var (word m (at + j)) < length names) × (word names (var (word m (at + j))) ≤ 4096)

-- a literal under the numbers in the table: as a word, and as a literal
abbrev pub under : List ℕ → ℕ → ℕ
under names l = literal_under (word names) l

abbrev pub named : List ℕ → Lit → Lit
named names l = signed (word names l.0.0) l.1

-- the table has the number of each variable that is 0 or defined
abbrev pub Named : Circuit → ℕ → ℕ → List ℕ → Type 0
Named c latch gate names = (v : ℕ) → T (member v (0 ∷ map var (defined c))) → word names v ≡ number_of c latch gate v
