-- Clauses over the nodes of a netlist. A literal is 2v for node v and 2v + 1 for its complement. A clause says of each number whether it
-- is one of its literals. Assumes nothing.
use Rattle.std.specs.Prelude.{◌≡◌, Bool, false, ◌&&◌, ◌⊎◌, ℕ, ◌+◌, ◌*◌, ◌<◌, T}
use Rattle.aiger.specs.Frames.{value}
use Rattle.memory.specs.Record.{opposite}

-- the clause of m literals, of which g i is the one at place i
abbrev pub Among : ℕ → (ℕ → ℕ) → ℕ → Type 0
Among m g l = (i : ℕ) × (i < m) × (g i ≡ l)

-- one of the clause's literals is true, where a gives the values of the nodes
abbrev pub Holds : (ℕ → Bool) → (ℕ → Type 0) → Type 0
Holds a c = (l : ℕ) × c l × T (value a l)

-- the clause holds in every hit
abbrev pub Valid : ((ℕ → Bool) → Type 0) → (ℕ → Type 0) → Type 0
Valid hit c = (a : ℕ → Bool) → hit a → Holds a c

-- the literal is true in every hit
abbrev pub Always : ((ℕ → Bool) → Type 0) → ℕ → Type 0
Always hit l = (a : ℕ → Bool) → hit a → T (value a l)

-- each literal of c but x is one of e's, or is false in every hit
abbrev pub Covers : ((ℕ → Bool) → Type 0) → (ℕ → Type 0) → ℕ → (ℕ → Type 0) → Type 0
Covers hit c x e = (l : ℕ) → c l → (l ≡ x → ⊥) → e l ⊎ Always hit (opposite l)

-- where a gives the values of the nodes, gate v is true exactly when both its operands are
abbrev pub GateOf : (ℕ → Bool) → ℕ → ℕ → ℕ → Type 0
GateOf a v l r = a v ≡ (value a l && value a r)
