-- What writing a freed circuit requires, and what its steps leave. Assumes nothing.
use Rattle.std.specs.Prelude.{◌≡◌, List, ℕ, ◌+◌, ◌*◌, ◌≤◌, ◌<◌, length}
use Rattle.aiger.specs.Memory.{Holds}
use Rattle.layout.specs.Words.{word, circuit_in}
use Rattle.layout.specs.Layout.{LayoutOf}
use Rattle.layout.specs.declared.Layout.{Layout}

-- the first n words are those of m, the others are as before
pub record Copied (m : List ℕ) (n : ℕ) (before after : List ℕ) : Type 0 where
  pub size : length after ≡ length before
  pub new : (i : ℕ) → i < n → word after i ≡ word m i
  pub others : (i : ℕ) → n ≤ i → word after i ≡ word before i

-- each of n latches, whose words begin at `at`, has itself as its reset; the other words are as before
pub record Reset (at n : ℕ) (before after : List ℕ) : Type 0 where
  pub size : length after ≡ length before
  pub new : (j : ℕ) → j < n → word after (at + 3 * j + 2) ≡ word before (at + 3 * j)
  pub others : (i : ℕ) → ((j : ℕ) → j < n → at + 3 * j + 2 ≡ i → ⊥) → word after i ≡ word before i

-- a circuit, its layout, and words that are 0
pub record FreeFits (m : List ℕ) (p : Layout) (words : List ℕ) : Type 0 where
  pub held : Holds m (circuit_in m)
  pub layout_of : LayoutOf m p
  pub zeros : (i : ℕ) → word words i ≡ 0
  pub room : 33032 ≤ length words
