-- Gates in words: which gate is an operand of which, an order of them, and a cycle. Gate g of lits is the literal lits[3g] that it
-- defines and its operands lits[3g + 1] and lits[3g + 2]. Assumes nothing.
use Rattle.std.specs.Prelude.{◌≡◌, Bool, true, false, ◌⊎◌, List, ℕ, ◌+◌, ◌-◌, ◌*◌, ◌/◌, ◌<◌, ◌≤◌, get_or}

-- gate h, one of the first m, defines the variable of an operand of gate g
abbrev pub Edge : List ℕ → ℕ → ℕ → ℕ → Type 0
Edge lits m g h =
    (h < m) × ((get_or lits (3 * h) 0 / 2 ≡ get_or lits (3 * g + 1) 0 / 2) ⊎ (get_or lits (3 * h) 0 / 2 ≡ get_or lits (3 * g + 2) 0 / 2))

-- h is an operand of g, or an operand of an operand, and so on
pub data Reach (lits : List ℕ) (m : ℕ) : ℕ → ℕ → Type 0 where
  one : {g h : ℕ} → Edge lits m g h → Reach lits m g h
  more : {g h k : ℕ} → Reach lits m g h → Edge lits m h k → Reach lits m g k

-- order is a permutation of the m gates, pos its inverse (one more than the place), and operands come before users
pub record InOrder (lits : List ℕ) (m : ℕ) (pos order : List ℕ) : Type 0 where
  pub gate : (k : ℕ) → k < m → get_or order k 0 < m
  pub there : (k : ℕ) → k < m → get_or pos (get_or order k 0) 0 ≡ k + 1
  pub placed : (g : ℕ) → g < m → (0 < get_or pos g 0) × (get_or pos g 0 ≤ m)
  pub back : (g : ℕ) → g < m → get_or order (get_or pos g 0 - 1) 0 ≡ g
  pub before : (g h : ℕ) → g < m → Edge lits m g h → get_or pos h 0 < get_or pos g 0

-- a gate that reaches itself
abbrev pub Cyclic : List ℕ → ℕ → Type 0
Cyclic lits m = (g : ℕ) × (g < m) × Reach lits m g g

-- the answer is right
abbrev pub Answered : List ℕ → ℕ → List ℕ → List ℕ → Bool → Type 0
Answered lits m pos order true = InOrder lits m pos order
Answered lits m pos order false = Cyclic lits m
