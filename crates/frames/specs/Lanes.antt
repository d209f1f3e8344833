-- Words of 64 runs, and what the functions of a frame do to them. Assumes nothing.
use Rattle.std.specs.Prelude.{◌≡◌, Bool, false, ◌&&◌, List, ℕ, ◌+◌, ◌≤◌, ◌<◌, length, get_or}
use Rattle.aiger.specs.Bits.{bit}
use Rattle.aiger.specs.Lists.{every}
use Rattle.aiger.specs.Circuit.{Circuit, Gate, var}
use Rattle.aiger.specs.Frames.{value}
use Rattle.aiger.specs.Memory.{Holds}
use Rattle.layout.specs.Words.{word, circuit_in}
use Rattle.layout.specs.Order.{Ordered}
use Rattle.layout.specs.Layout.{LayoutOf}
use Rattle.layout.specs.declared.Layout.{Layout}
use Rattle.meaning.specs.Frame.{input_at, latch_at, gate_at, Valuation}

-- the values of the variables in run p
abbrev pub lane : List ℕ → ℕ → ℕ → Bool
lane values p v = bit (get_or values v 0) p

-- a circuit in memory m that is ready to be evaluated, with a word for each variable
pub record Ready (m : List ℕ) (layout : Layout) (order : List ℕ) (count : ℕ) : Type 0 where
  pub held : Holds m (circuit_in m)
  pub layout_of : LayoutOf m layout
  pub ordered : Ordered (circuit_in m) order
  pub ranks : 3072 ≤ length order
  pub room : word m 0 < count

-- w gives the constant, the inputs and the latches of a frame their values
pub record Leaves (c : Circuit) (row st : List Bool) (w : ℕ → Bool) : Type 0 where
  pub constant : w 0 ≡ false
  pub input : (i : ℕ) → i < length c.inputs → w (var (input_at c i)) ≡ get_or row i false
  pub latch : (j : ℕ) → j < length c.latches → w (var (latch_at c j).lit) ≡ get_or st j false

-- in each run, whatever frame the leaves stood for before, all values are that frame's after; what is no gate's variable keeps its value
pub record Evaluated (c : Circuit) (before after : List ℕ) : Type 0 where
  pub values : (p : ℕ) → p < 64 → (row st : List Bool) → Leaves c row st (lane before p) → Valuation c row st (lane after p)
  pub others : (p : ℕ) → p < 64 → (v : ℕ) → ((i : ℕ) → i < length c.gates → var (gate_at c i).lit ≡ v → ⊥)
      → lane after p v ≡ lane before p v
  pub size : length after ≡ length before

-- every constraint is true
abbrev pub constrained_in : Circuit → (ℕ → Bool) → Bool
constrained_in c w = every (value w) c.constraints

-- bad line b is true
abbrev pub bad_in : Circuit → ℕ → (ℕ → Bool) → Bool
bad_in c b w = value w (get_or c.bads b 0)

-- every constraint is true, and bad line b is
abbrev pub hit_in : Circuit → ℕ → (ℕ → Bool) → Bool
hit_in c b w = constrained_in c w && bad_in c b w

-- in each run, each latch has after the value that its next literal had before; what is no latch's variable keeps its word
pub record Advanced (c : Circuit) (before after : List ℕ) : Type 0 where
  pub latch : (p : ℕ) → p < 64 → (j : ℕ) → j < length c.latches
      → lane after p (var (latch_at c j).lit) ≡ value (lane before p) (latch_at c j).next
  pub others : (v : ℕ) → ((j : ℕ) → j < length c.latches → var (latch_at c j).lit ≡ v → ⊥) → get_or after v 0 ≡ get_or before v 0
  pub constant : (p : ℕ) → p < 64 → lane after p 0 ≡ lane before p 0
  pub size : length after ≡ length before

-- a gate's three words stand in the memory from `at` on, and its variables are below count
pub record GateRoom (m : List ℕ) (at count : ℕ) : Type 0 where
  pub inside : at + 2 < length m
  pub lit : var (word m at) < count
  pub left : var (word m (at + 1)) < count
  pub right : var (word m (at + 2)) < count

-- the gate's variable has after the conjunction of its operands before; the other variables have the same values
pub record Computed (g : Gate) (before after : ℕ → Bool) : Type 0 where
  pub result : after (var g.lit) ≡ (value before g.left && value before g.right)
  pub others : (v : ℕ) → (var g.lit ≡ v → ⊥) → after v ≡ before v

-- the same in each run
abbrev pub Gated : Gate → List ℕ → List ℕ → Type 0
Gated g before after = (p : ℕ) → p < 64 → Computed g (lane before p) (lane after p)

-- n places below count, no two of them the same
pub record Apart (place : ℕ → ℕ) (n count : ℕ) : Type 0 where
  pub below : (j : ℕ) → j < n → place j < count
  pub differ : (i j : ℕ) → i < j → j < n → place i ≡ place j → ⊥

-- after has words j at place j, for each j below n; the other words are as before
pub record Stored (place words : ℕ → ℕ) (n : ℕ) (before after : List ℕ) : Type 0 where
  pub new : (j : ℕ) → j < n → get_or after (place j) 0 ≡ words j
  pub others : (v : ℕ) → ((j : ℕ) → j < n → place j ≡ v → ⊥) → get_or after v 0 ≡ get_or before v 0
