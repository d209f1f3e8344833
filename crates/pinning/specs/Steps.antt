-- What writing a pinned circuit requires and leaves. Assumes nothing.
use Rattle.std.specs.Prelude.{◌≡◌, List, [], ◌∷◌, ◌++◌, ℕ, ◌+◌, ◌≤◌, length, get_or, take, drop}
use Rattle.aiger.specs.Memory.{Holds}
use Rattle.layout.specs.Words.{word, circuit_in}
use Rattle.layout.specs.Layout.{LayoutOf}
use Rattle.layout.specs.declared.Layout.{Layout}
use Rattle.pins.specs.Pins.{pinned}

-- the words w stored from position `at` on
abbrev pub stored : List ℕ → ℕ → List ℕ → List ℕ
stored out at w = take at out ++ w ++ drop (at + length w) out

-- the counts of a circuit with n inputs
abbrev pub heads : List ℕ → ℕ → List ℕ
heads m n = word m 0 ∷ n ∷ word m 2 ∷ word m 3 ∷ word m 4 ∷ word m 5 ∷ word m 6 ∷ []

-- what writing a pinned circuit requires: a circuit, its layout, a table without pins for every variable, and words that are 0
pub record PinFits (m : List ℕ) (p : Layout) (user : ℕ) (table words : List ℕ) : Type 0 where
  pub held : Holds m (circuit_in m)
  pub layout_of : LayoutOf m p
  pub user-of : user ≤ 1
  pub free : (v : ℕ) → get_or table v 2 ≡ 2
  pub variables : 4097 ≤ length table
  pub zeros : (i : ℕ) → word words i ≡ 0
  pub room : 33032 ≤ length words

-- the words hold the pinned circuit
abbrev pub Pinned : List ℕ → (ℕ → ℕ) → List ℕ → Type 0
Pinned m q words = Holds words (pinned (circuit_in m) q)
