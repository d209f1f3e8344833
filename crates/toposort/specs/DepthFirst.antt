-- The depth-first search: what a look at a gate's operands finds, the search's invariant, and a step. Assumes nothing.
use Rattle.std.specs.Prelude.{◌≡◌, Bool, true, false, ◌⊎◌, List, [], ℕ, zero, suc, ◌+◌, ◌-◌, ◌*◌, ◌/◌, ◌<◌, ◌≤◌, T, eqb, length, get_or, take, drop, replicate}
use Rattle.std.proofs.Math.Option.{Option, none, some}
use Rattle.aiger.specs.Circuit.{Circuit, acyclic}
use Rattle.layout.specs.Order.{Ordered, completed, placed_from}
use Rattle.toposort.specs.Gates.{Edge, Cyclic}
use Rattle.toposort.specs.declared.Visit.{Visit}
use Rattle.toposort.specs.declared.Visit.TheVariants.{Fresh, Open, Done}
use Rattle.toposort.specs.declared.Step.{Step}
use Rattle.toposort.specs.declared.Step.TheVariants.{Deeper, Placed, Cycle}

-- the table has base + g + 1 at the variable that gate g defines, and at no other
pub record Linked (lits : List ℕ) (base m : ℕ) (table : List ℕ) : Type 0 where
  pub room : 3 * m ≤ length lits
  pub small : base + m ≤ 4096
  pub left : (g : ℕ) → g < m → get_or lits (3 * g + 1) 0 / 2 < length table
  pub right : (g : ℕ) → g < m → get_or lits (3 * g + 2) 0 / 2 < length table
  pub bound : (v : ℕ) → get_or table v 0 ≤ base + m
  pub drives : (g : ℕ) → g < m → get_or table (get_or lits (3 * g) 0 / 2) 0 ≡ base + g + 1
  pub only : (v g : ℕ) → get_or table v 0 ≡ base + g + 1 → get_or lits (3 * g) 0 / 2 ≡ v

-- a gate is in the order
abbrev pub Placed-at : ℕ → List ℕ → ℕ → Type 0
Placed-at m pos h = (0 < get_or pos h 0) × (get_or pos h 0 ≤ m)

-- the gate that defines variable v: not met, on the stack, or in the order or none
abbrev pub Looked : ℕ → ℕ → List ℕ → List ℕ → ℕ → Visit → Type 0
Looked base m table pos v (Fresh h) = (h < m) × (get_or table v 0 ≡ base + h + 1) × (get_or pos h 0 ≡ 0)
Looked base m table pos v Open = (h : ℕ) × (h < m) × (get_or table v 0 ≡ base + h + 1) × (m < get_or pos h 0)
Looked base m table pos v Done = (h : ℕ) → get_or table v 0 ≡ base + h + 1 → Placed-at m pos h

-- an operand of g that is not met, one on the stack, or all are in the order
abbrev pub OperandOf : List ℕ → ℕ → List ℕ → ℕ → Visit → Type 0
OperandOf lits m pos g (Fresh h) = Edge lits m g h × (get_or pos h 0 ≡ 0)
OperandOf lits m pos g Open = (h : ℕ) × Edge lits m g h × (m < get_or pos h 0)
OperandOf lits m pos g Done = (h : ℕ) → Edge lits m g h → Placed-at m pos h

-- left and right say for each gate which gate defines its operands, as the table has it
pub record Operands (lits : List ℕ) (base m : ℕ) (table : List ℕ) (left right : ℕ → Option ℕ) : Type 0 where
  pub left-some : (g h : ℕ) → g < m → get_or table (get_or lits (3 * g + 1) 0 / 2) 0 ≡ base + h + 1 → left g ≡ some h
  pub left-none : (g : ℕ) → g < m → get_or table (get_or lits (3 * g + 1) 0 / 2) 0 ≤ base → left g ≡ none
  pub right-some : (g h : ℕ) → g < m → get_or table (get_or lits (3 * g + 2) 0 / 2) 0 ≡ base + h + 1 → right g ≡ some h
  pub right-none : (g : ℕ) → g < m → get_or table (get_or lits (3 * g + 2) 0 / 2) 0 ≤ base → right g ≡ none

-- the gate that is named, if one is, is in the order
abbrev pub Settled : ℕ → List ℕ → Option ℕ → Type 0
Settled m pos none = Unit {0}
Settled m pos (some h) = (h < m) × Placed-at m pos h

-- where the search goes on, where l and r are the gates of the operands: with the left one first
abbrev pub Next : ℕ → List ℕ → Option ℕ → Option ℕ → Visit → Type 0
Next m pos l r (Fresh h) = (l ≡ some h) ⊎ (Settled m pos l × (r ≡ some h))
Next m pos l r Open = Unit {0}
Next m pos l r Done = Settled m pos l × Settled m pos r

abbrev pub one-if : Bool → ℕ
one-if true = 1
one-if false = 0

-- how many of the first m gates are not met
unfoldable pub fresh : ℕ → List ℕ → ℕ
fresh zero p = 0
fresh (suc k) p = one-if (eqb (get_or p k 0) 0) + fresh k p

-- pos is 0 at a gate not met, k + 1 at the gate at place k of the order, m + 1 + k at the gate at place k of the stack
pub record State (lits : List ℕ) (m : ℕ) (pos order stack : List ℕ) (sp done : ℕ) : Type 0 where
  pub count : done + sp + fresh m pos ≡ m
  pub gate : (k : ℕ) → k < done → get_or order k 0 < m
  pub there : (k : ℕ) → k < done → get_or pos (get_or order k 0) 0 ≡ k + 1
  pub back : (g : ℕ) → g < m → 0 < get_or pos g 0 → get_or pos g 0 ≤ m → (get_or pos g 0 ≤ done) × (get_or order (get_or pos g 0 - 1) 0 ≡ g)
  pub before : (g h : ℕ) → g < m → 0 < get_or pos g 0 → get_or pos g 0 ≤ m → Edge lits m g h
      → (0 < get_or pos h 0) × (get_or pos h 0 < get_or pos g 0)
  pub on-gate : (k : ℕ) → k < sp → get_or stack k 0 < m
  pub on-there : (k : ℕ) → k < sp → get_or pos (get_or stack k 0) 0 ≡ m + 1 + k
  pub on-back : (g : ℕ) → g < m → m < get_or pos g 0 → (get_or pos g 0 < m + 1 + sp) × (get_or stack (get_or pos g 0 - (m + 1)) 0 ≡ g)
  pub path : (k : ℕ) → k + 1 < sp → Edge lits m (get_or stack k 0) (get_or stack (k + 1) 0)

-- the search's invariant, with room for m gates in each list
pub record Search (lits : List ℕ) (m : ℕ) (pos order stack : List ℕ) (sp done : ℕ) : Type 0 where
  pub pos-room : m ≤ length pos
  pub order-room : m ≤ length order
  pub stack-room : m ≤ length stack
  pub state : State lits m pos order stack sp done

-- a gate that is met stays met
abbrev pub Stays : List ℕ → List ℕ → Type 0
Stays old new = (g : ℕ) → get_or new g 0 ≡ 0 → get_or old g 0 ≡ 0

-- where a step leads
abbrev pub Stepped : List ℕ → ℕ → List ℕ → List ℕ → List ℕ → List ℕ → ℕ → ℕ → Step → Type 0
Stepped lits m old pos order stack sp done Deeper = Search lits m pos order stack (sp + 1) done × Stays old pos
Stepped lits m old pos order stack sp done Placed = Search lits m pos order stack (sp - 1) (done + 1) × Stays old pos
Stepped lits m old pos order stack sp done Cycle = Cyclic lits m

-- the gates at the first k places of the stack are completed, the top one first
unfoldable pub unwound : (ℕ → Option ℕ) → (ℕ → Option ℕ) → ℕ → List ℕ → ℕ → List ℕ → List ℕ
unwound left right m stack zero placed = placed
unwound left right m stack (suc k) placed = unwound left right m stack k (completed left right (m - k) placed (get_or stack k 0))

-- a step leaves the same gates to be placed in the same order
abbrev pub Continues : (ℕ → Option ℕ) → (ℕ → Option ℕ) → ℕ → List ℕ → List ℕ → List ℕ → List ℕ → ℕ → ℕ → Step → Type 0
Continues left right m order stack order' stack' sp done Deeper =
    unwound left right m stack' (sp + 1) (take done order') ≡ unwound left right m stack sp (take done order)
Continues left right m order stack order' stack' sp done Placed =
    unwound left right m stack' (sp - 1) (take (done + 1) order') ≡ unwound left right m stack sp (take done order)
Continues left right m order stack order' stack' sp done Cycle = Unit {0}

-- the order is the depth-first one
abbrev pub Arranged : List ℕ → ℕ → ℕ → List ℕ → List ℕ → Bool → Type 0
Arranged lits base m table order true =
    (left right : ℕ → Option ℕ) → Operands lits base m table left right → take m order ≡ placed_from left right m 0 m []
Arranged lits base m table order false = Unit {0}

-- cause 8 does not refuse, there is an order of evaluation, and the words after it are as they were; or it does
abbrev pub Tested : Circuit → List ℕ → List ℕ → Bool → Type 0
Tested c old order true = T (acyclic c) × Ordered c order × (drop (length c.gates) order ≡ drop (length c.gates) old)
Tested c old order false = T (acyclic c) → ⊥

-- the same, and where it refuses every word is 0
abbrev pub Sorted : Circuit → List ℕ → List ℕ → Bool → Type 0
Sorted c old order true = T (acyclic c) × Ordered c order × (drop (length c.gates) order ≡ drop (length c.gates) old)
Sorted c old order false = (T (acyclic c) → ⊥) × (order ≡ replicate (length old) 0)
