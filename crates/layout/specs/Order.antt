-- An order of evaluation of a circuit's gates. Assumes nothing.
use Rattle.std.specs.Prelude.{◌≡◌, cond, ◌⊎◌, List, [], ◌∷◌, ◌++◌, ℕ, zero, suc, ◌<◌, eqb, length, get_or, take}
use Rattle.std.proofs.Math.Option.{Option, none, some}
use Rattle.aiger.specs.Lists.{member, last_below}
use Rattle.aiger.specs.Circuit.{Circuit, Gate, var}

-- the i-th gate in file order
abbrev pub gate_at : Circuit → ℕ → Gate
gate_at c i = get_or c.gates i (record { lit = 0; left = 0; right = 0 })

-- gate h defines an operand of gate g
abbrev pub Feeds : Circuit → ℕ → ℕ → Type 0
Feeds c h g =
    (h < length c.gates)
    × ((var (gate_at c h).lit ≡ var (gate_at c g).left) ⊎ (var (gate_at c h).lit ≡ var (gate_at c g).right))

-- ---- the order that a depth-first search gives

-- the place in the file of the gate that defines variable v
unfoldable pub driver : Circuit → ℕ → Option ℕ
driver c v = last_below (λ i. eqb (var (gate_at c i).lit) v) (length c.gates)

-- the gates that are placed, and then the one that is named, if one is and it is not there: `complete` places it
abbrev pub ensured : Option ℕ → (List ℕ → ℕ → List ℕ) → List ℕ → List ℕ
ensured none complete placed = placed
ensured (some g) complete placed = cond (member g placed) placed (complete placed g)

-- gate g is placed after the gates of its left operand and then of its right one, each with what it needs, n gates deep at most
unfoldable pub completed : (ℕ → Option ℕ) → (ℕ → Option ℕ) → ℕ → List ℕ → ℕ → List ℕ
completed left right zero placed g = placed
completed left right (suc n) placed g =
    ensured (right g) (completed left right n) (ensured (left g) (completed left right n) placed) ++ (g ∷ [])

-- the k gates from gate g on are placed one after the other, where there are m gates
unfoldable pub placed_from : (ℕ → Option ℕ) → (ℕ → Option ℕ) → ℕ → ℕ → ℕ → List ℕ → List ℕ
placed_from left right m g zero placed = placed
placed_from left right m g (suc k) placed = placed_from left right m (suc g) k (ensured (some g) (completed left right m) placed)

-- the gates that define the operands of gate g
abbrev pub left_gate : Circuit → ℕ → Option ℕ
left_gate c g = driver c (var (gate_at c g).left)

abbrev pub right_gate : Circuit → ℕ → Option ℕ
right_gate c g = driver c (var (gate_at c g).right)

-- all gates, by their places in the file
unfoldable pub depth_first : Circuit → List ℕ
depth_first c = placed_from (left_gate c) (right_gate c) (length c.gates) 0 (length c.gates) []

-- the first A words of order name each gate once, each after the gates that define its operands; place g is where gate g stands
pub record Ordered (c : Circuit) (order : List ℕ) : Type 0 where
  pub place : ℕ → ℕ
  pub gate : (k : ℕ) → k < length c.gates → get_or order k 0 < length c.gates
  pub there : (k : ℕ) → k < length c.gates → place (get_or order k 0) ≡ k
  pub placed : (g : ℕ) → g < length c.gates → (place g < length c.gates) × (get_or order (place g) 0 ≡ g)
  pub before : (g h : ℕ) → g < length c.gates → Feeds c h g → place h < place g
  -- of several such orders it is the depth-first one
  pub chosen : take (length c.gates) order ≡ depth_first c
