-- Which circuit a memory holds, as code tests it. Assumes nothing.
use Rattle.std.specs.Prelude.{◌≡◌, Option, Some, None, Bool, true, false, List, ℕ, ◌≤◌, ◌<◌, length, drop, replicate}
use Rattle.aiger.specs.File.{counts_fit, header_of}
use Rattle.aiger.specs.Load.{needed}
use Rattle.aiger.specs.Memory.{Holds}
use Rattle.aiger.specs.Operations.{HoldsNone}
use Rattle.layout.specs.Words.{word, content_end, circuit_in}
use Rattle.headers.specs.declared.Counts.{Counts}
use Rattle.layout.specs.declared.Layout.{Layout}
use Rattle.layout.specs.Layout.{LayoutOf}
use Rattle.layout.specs.Order.{Ordered}
pub use Rattle.variables.specs.Table.{Says}

-- the words from position a up to position b are 0
abbrev pub Zeros : List ℕ → ℕ → ℕ → Type 0
Zeros m a b = (i : ℕ) → a ≤ i → i < b → word m i ≡ 0

-- all that a memory which holds a circuit has, but causes 6 to 8
pub record Shaped (m : List ℕ) : Type 0 where
  pub fit : counts_fit (header_of (circuit_in m)) ≡ true
  pub room : needed (word m 0) ≤ length m
  pub zeros : Zeros m (content_end m) (needed (word m 0))

-- the counts of a layout, as those of a header
abbrev pub counts_in : Layout → Counts
counts_in p = record { m = p.m; i = p.i; l = p.l; o = p.o; a = p.a; b = p.b; c = p.c; j = 0; f = 0 }

-- the memory holds the circuit that its words encode, laid out so, or none
abbrev pub Tested : List ℕ → Option Layout → Type 0
Tested m (Some p) = LayoutOf m p × Holds m (circuit_in m)
Tested m None = HoldsNone m

-- the same, and an order of evaluation of the circuit's gates
abbrev pub HeldIs : List ℕ → List ℕ → Option Layout → Type 0
HeldIs m order (Some p) = LayoutOf m p × Holds m (circuit_in m) × Ordered (circuit_in m) order
HeldIs m order None = HoldsNone m

-- the order is after the circuit's gates as it was, where there is a circuit; else it is all 0
abbrev pub OrderLeft : List ℕ → List ℕ → List ℕ → Option Layout → Type 0
OrderLeft m old order (Some p) = drop (length (circuit_in m).gates) order ≡ drop (length (circuit_in m).gates) old
OrderLeft m old order None = order ≡ replicate (length old) 0
