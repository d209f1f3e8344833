-- The table of definitions: for each variable, one more than the place of its definition in file order, or 0. Assumes nothing.
use Rattle.std.specs.Prelude.{◌≡◌, Bool, true, false, ◌||◌, List, ℕ, ◌+◌, ◌*◌, ◌/◌, ◌%◌, ◌<◌, ◌≤◌, T, leb, eqb, length, get_or, set}
use Rattle.aiger.specs.Circuit.{literals_right}
use Rattle.layout.specs.Words.{word, latches_at, circuit_in}
use Rattle.columns.specs.declared.Column.{Column}
use Rattle.columns.specs.Columns.{Inside, at, total, definition}

-- the answer of a test of P
abbrev pub Says : Bool → Type 0 → Type 0
Says true P = P
Says false P = P → ⊥

-- a literal that may define its variable
pub record Defines (m l : ℕ) : Type 0 where
  pub some : 0 < l / 2
  pub bound : l / 2 ≤ m
  pub even : l % 2 ≡ 0

-- the first n definitions are right, each of a variable of its own
pub record Definitions (w : List ℕ) (n : ℕ) : Type 0 where
  pub right : (i : ℕ) → i < n → Defines (word w 0) (definition w i)
  pub apart : (i j : ℕ) → i < j → j < n → definition w i / 2 ≡ definition w j / 2 → ⊥

-- the table has the first n definitions, which are right, and no others
pub record Entered (w : List ℕ) (n : ℕ) (table : List ℕ) : Type 0 where
  pub room : word w 0 < length table
  pub right : (i : ℕ) → i < n → Defines (word w 0) (definition w i)
  pub has : (i : ℕ) → i < n → get_or table (definition w i / 2) 0 ≡ i + 1
  pub only : (v i : ℕ) → get_or table v 0 ≡ i + 1 → (i < n) × (definition w i / 2 ≡ v)

-- the literal l was entered; or it cannot define its variable; or the variable is in the table
abbrev pub Enters : ℕ → ℕ → ℕ → List ℕ → List ℕ → Bool → Type 0
Enters m l label old new true = Defines m l × (get_or old (l / 2) 0 ≡ 0) × (new ≡ set old (l / 2) label)
Enters m l label old new false = Defines m l → get_or old (l / 2) 0 ≡ 0 → ⊥

-- what entering a column needs: its literals are the definitions from base on, and those before are in the table
pub record Defining (w : List ℕ) (c : Column) (m base : ℕ) (table : List ℕ) : Type 0 where
  pub inside : Inside w c
  pub most : m ≡ word w 0
  pub within : base + c.n ≤ total w
  pub small : total w ≤ 4096
  pub part : (i : ℕ) → i < c.n → at w c i ≡ definition w (base + i)
  pub before : Entered w base table

-- the first n definitions were entered, or the definitions are not all right
abbrev pub Defined : List ℕ → ℕ → List ℕ → Bool → Type 0
Defined w n table true = Entered w n table
Defined w n table false = Definitions w (total w) → ⊥

-- each latch has a right reset
abbrev pub Resets : List ℕ → Type 0
Resets w =
    (j : ℕ) → j < word w 2
    → T (leb (word w (latches_at w + 3 * j + 2)) 1 || eqb (word w (latches_at w + 3 * j + 2)) (word w (latches_at w + 3 * j)))

-- cause 6 does not refuse, and all definitions are in the table; or it does
abbrev pub Tested : List ℕ → List ℕ → Bool → Type 0
Tested w table true = T (literals_right (circuit_in w)) × Entered w (total w) table
Tested w table false = T (literals_right (circuit_in w)) → ⊥

-- the same, and where it refuses the table is as it was. Where it does not, what is entered says each word of the table.
abbrev pub Literals : List ℕ → List ℕ → List ℕ → Bool → Type 0
Literals w old table true = T (literals_right (circuit_in w)) × Entered w (total w) table
Literals w old table false = (T (literals_right (circuit_in w)) → ⊥) × (table ≡ old)

-- a literal's variable is 0 or in the table
abbrev pub Known : List ℕ → ℕ → Type 0
Known table l = get_or table (l / 2) 0 ≡ 0 → l / 2 ≡ 0
