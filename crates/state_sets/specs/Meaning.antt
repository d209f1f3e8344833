-- What the edges of a table mean for the states of a machine. Assumes nothing.
use Rattle.std.specs.Prelude.{◌≡◌, Bool, true, false, not, cond, ◌&&◌, List, [], ◌∷◌, ℕ, zero, suc, ◌+◌, ◌≤◌, ◌<◌, ltb, length, get_or}
use Rattle.std.proofs.Math.Option.{Option, none, some}
use Rattle.diagrams.specs.declared.Vertex.{Vertex}
use Rattle.diagrams.specs.Meaning.{Assignment, value, In, Terms, Good}
use Rattle.machine.specs.Machine.{Machine}
use Rattle.backward.specs.Sets.{any_below, into, ahead, nearest}
use Rattle.state_sets.specs.Shape.{row_at}
use Rattle.state_sets.specs.Sets.{Sets, next_of}

-- the values of the words of a table, under each assignment
abbrev pub Values : Type 0
Values = ℕ → Assignment → Bool

unfoldable pub values_of : List Vertex → List ℕ → Values
values_of ns table i x = value ns x (get_or table i 0)

-- the states of a machine below n as assignments of so many variables: the others are false
pub record Coded (at : ℕ → Assignment) (vars : ℕ) : Type 0 where
  pub past : (s v : ℕ) → vars ≤ v → at s v ≡ false

-- there is a next state
abbrev pub is_some : Option ℕ → Bool
is_some none = false
is_some (some s) = true

-- The values of row k of a table at a state are those of the machine's row r: whether it hits, whether it is allowed, and where it leads.
pub record Alike (m : Machine) (at : ℕ → Assignment) (vars k r s : ℕ) (vs : Values) : Type 0 where
  pub hits : vs (row_at vars k + vars + 1) (at s) ≡ m.hit s r
  pub allowed : vs (row_at vars k + vars) (at s) ≡ is_some (m.step s r)
  pub leads : (x v : ℕ) → m.step s r ≡ some x → v < vars → vs (row_at vars k + v) (at s) ≡ at x v

-- The rows of a table are those of a machine: every row of the machine is like row `like` of the table, and row k of the table is like its
-- row `first` and no earlier one. The edge after the rows is true of every start state.
pub record RowsOf (m : Machine) (n : ℕ) (at : ℕ → Assignment) (vars rows : ℕ) (vs : Values) : Type 0 where
  pub like : ℕ → ℕ
  pub first : ℕ → ℕ
  pub like-fits : (r : ℕ) → r < m.rows → like r < rows
  pub first_fits : (k : ℕ) → k < rows → first k < m.rows
  pub like-first : (k : ℕ) → k < rows → like (first k) ≡ k
  pub first-least : (r : ℕ) → r < m.rows → first (like r) ≤ r
  pub first-order : (k l : ℕ) → k ≤ l → l < rows → first k ≤ first l
  pub alike : (r s : ℕ) → r < m.rows → s < n → Alike m at vars (like r) r s vs
  pub begins : (y : ℕ) → y < m.starts → vs (row_at vars rows) (at (m.start y)) ≡ true

-- the next values in row k of a table under an assignment, as an assignment
abbrev pub leads_to : Values → ℕ → ℕ → Assignment → Assignment
leads_to vs vars k x v = cond (ltb v vars) (vs (row_at vars k + v) x) false

-- whether row k of a table hits, where next is 0, and else is allowed and leads into the set before
abbrev pub row_value : Values → ℕ → ℕ → ℕ → Assignment → Bool
row_value vs vars zero k x = vs (row_at vars k + vars + 1) x
row_value vs vars (suc last) k x = vs (row_at vars k + vars) x && vs last (leads_to vs vars k x)

-- row r of state s hits, where next is 0, and else leads into the set before
abbrev pub adds : Machine → ℕ → ℕ → ℕ → Bool
adds m zero s r = m.hit s r
adds m (suc last) s r = into (nearest m last) (m.step s r)

-- a hit is less than next frames ahead
abbrev pub met_before : Machine → ℕ → ℕ → Bool
met_before m next s = any_below next (λ i. ahead m i s)

-- The sets before `next` and their union stand in the table, and so does what the first rows add to set `next`.
pub record Standing (m : Machine) (n : ℕ) (at : ℕ → Assignment) (vars rows next done : ℕ) (vs : Values) : Type 0 where
  pub rows-of : RowsOf m n at vars rows vs
  pub sets : (j s : ℕ) → j < next → s < n → vs j (at s) ≡ nearest m j s
  pub union : (s : ℕ) → s < n → vs 256 (at s) ≡ met_before m next s
  pub part : (s : ℕ) → s < n → vs 257 (at s) ≡ (any_below done (λ k. adds m next s (rows-of.first k)) && not (met_before m next s))

-- the vectors of the rows from r on, for the cache
unfoldable pub vectors_from : ℕ → List ℕ → ℕ → ℕ → List (List ℕ)
vectors_from vars table zero r = []
vectors_from vars table (suc n) r = next_of vars r table ∷ vectors_from vars table n (suc r)

abbrev pub terms_of : ℕ → ℕ → ℕ → List ℕ → Terms
terms_of level vars rows table = record { level = level; vectors = vectors_from vars table rows 0 }

-- a table in a diagram that is good for its rows, with the edges of the diagram
pub record Tabled (level vars rows : ℕ) (z : Sets) : Type 0 where
  pub good : Good (terms_of level vars rows z.table) z.state
  pub edges : (i : ℕ) → In z.state.nodes (get_or z.table i 0)

-- the sets before `next`, and what the first rows add to set `next`, stand in a table
pub record Held (level : ℕ) (m : Machine) (n : ℕ) (at : ℕ → Assignment) (vars rows next done : ℕ) (z : Sets) : Type 0 where
  pub room : 258 ≤ length z.table
  pub tabled : Tabled level vars rows z
  pub standing : Standing m n at vars rows next done (values_of z.state.nodes z.table)
