-- From columns to the whole circuit: entering the three columns of definitions, and testing the four columns of used literals.
-- Assumes nothing.
use mathlib.Core.Path.{◌≡◌, refl}
use mathlib.Core.Bool.{Bool, true, false, not}
use mathlib.Core.List.{List}
use Prim.Native.Nat.{ℕ, ◌+◌, ◌/◌, ◌<◌, ◌≤◌}
use native.Mathlib.Omega.{arith}
use borrow.Author.Tests.{not-true, not-false}
use lib.Dec.{T}
use lib.ListN.{length, get_or}
use Rattle.aiger.specs.Circuit.{literals_right}
use Rattle.layout.specs.Words.{word, circuit_in}
use Rattle.layout.specs.Layout.{Counted}
use Rattle.columns.specs.declared.Column.{Column}
use Rattle.columns.specs.declared.Role.{Role}
use Rattle.columns.specs.declared.Role.TheVariants.{Input, Latch, Gate, Next, Root, Left, Right}
use Rattle.columns.specs.Columns.{at, Each, column_of, total, definition, Used}
use Rattle.columns.proofs.Parts.{inside, input-place, latch-place, gate-place}
use Rattle.variables.specs.Table.{Says, Entered, Defining, Resets, Tested}
use Rattle.variables.proofs.Entries.{entered-none, entered-right}
use Rattle.variables.proofs.Causes.{used-map, literals-in, literals-used, literals-resets}

-- ---- the columns of definitions, one after another

module _ (w : List ℕ) (C : Counted w) (t : List ℕ) where
  defining : (r : Role) (base : ℕ) → base + (column_of w r).n ≤ total w
      → ((i : ℕ) → i < (column_of w r).n → at w (column_of w r) i ≡ definition w (base + i)) → Entered w base t
      → Defining w (column_of w r) (word w 0) base t
  defining r base l p E =
      record { inside = inside w C r; most = refl; within = l; small = omega (arith, C.sum, C.max_var); part = p; before = E }

  pub inputs-next : word w 0 < length t → ((v : ℕ) → get_or t v 0 ≡ 0) → Defining w (column_of w Input) (word w 0) 0 t
  inputs-next room z = defining Input 0 (omega arith) (input-place w) (entered-none w t room z)

  pub latches-next : Entered w (0 + word w 1) t → Defining w (column_of w Latch) (word w 0) (word w 1) t
  latches-next E =
      let k : 0 + word w 1 ≡ word w 1 = omega arith in
      defining Latch (word w 1) (omega arith) (latch-place w) (rw k at E)

  pub gates-next : Entered w (word w 1 + word w 2) t → Defining w (column_of w Gate) (word w 0) (word w 1 + word w 2) t
  gates-next E = defining Gate (word w 1 + word w 2) (omega arith) (gate-place w) E

-- ---- the columns of used literals

module _ (w : List ℕ) (P : ℕ → Type 0) {c d : Column} (s : c ≡ d) where
  pub column-fails : (Used w P → Each w d P) → (r : Bool) → not r ≡ true → Says r (Each w c P) → Used w P → ⊥
  column-fails part r e h u = (rw (not-true r e, s) at h) (part u)

  pub column-holds : (r : Bool) → not r ≡ false → Says r (Each w c P) → Each w d P
  column-holds r e h = rw (not-false r e, s) at h

module _ (w : List ℕ) (P : ℕ → Type 0) {c : Column} (s : c ≡ column_of w Right) where
  pub columns-hold : (r : Bool) → Says r (Each w c P) → Each w (column_of w Next) P → Each w (column_of w Root) P
      → Each w (column_of w Left) P → Says r (Used w P)
  columns-hold true h n o l = record { nexts = n; roots = o; lefts = l; rights = rw s at h }
  columns-hold false h n o l = λ u. (rw s at h) u.rights

-- ---- cause 6

pub literals-all : (w t : List ℕ) → Entered w (total w) t → Used w (λ l. l / 2 ≤ word w 0) → (r : Bool) → Says r (Resets w) → Tested w t r
literals-all w t E u true h = (literals-in w (entered-right w (total w) t E) u h, E)
literals-all w t E u false h = λ right. h (literals-resets w right)

-- the variable of a used literal is within the table
pub used-room : (w t : List ℕ) → Entered w (total w) t → T (literals_right (circuit_in w)) → Used w (λ l. l / 2 < length t)
used-room w t E right = used-map w (λ l. l / 2 ≤ word w 0) (λ l. l / 2 < length t) (λ l h. omega (arith, E.room)) (literals-used w right)
