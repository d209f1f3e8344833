-- Folded frames: which circuits fold may write. Assumes nothing.
use Rattle.std.specs.Prelude.{Bool, true, false, not, ◌&&◌, ◌||◌, List, [], ◌∷◌, map, ℕ, zero, suc, ◌+◌, ◌-◌, ◌*◌, ◌%◌, ◌^◌, leb, ltb, eqb, length, get_or}
use Rattle.std.specs.Bool.{beq}
use Rattle.aiger.specs.Lists.{all, every, any, pairwise, every_below, member, same, upto}
use Rattle.aiger.specs.Bits.{odd}
use Rattle.aiger.specs.Circuit.{Circuit, Gate, var}
use Rattle.aiger.specs.Frames.{value_at, free_bits, free_bit}
use Rattle.aiger.specs.Search.{reaches}

-- the value of literal l of a circuit without latches, whose n inputs take the free bits of sequence x
unfoldable pub value_on : Circuit → ℕ → ℕ → ℕ → Bool
value_on d n x l = value_at d (record { start = []; rows = map (free_bit n x) (upto n) ∷ [] }) 0 l

-- the output's literal
abbrev pub output : Circuit → ℕ
output d = get_or d.outputs 0 0

-- Clauses 5.1 and 5.2: variables 1 to n are the inputs, there is no latch and one output, gates follow from n + 1 on with earlier
-- operands, the larger one first, and M is n + A
unfoldable pub shaped : ℕ → Circuit → Bool
shaped n d =
    eqb d.max_var (n + length d.gates) && same d.inputs (map (λ j. 2 * (j + 1)) (upto n)) && eqb (length d.latches) 0
    && eqb (length d.outputs) 1 && eqb (length d.bads) 0 && eqb (length d.constraints) 0 && leb (output d) (2 * d.max_var + 1)
    && same (map (λ g. g.lit) d.gates) (map (λ i. 2 * (n + 1 + i)) (upto (length d.gates)))
    && every (λ g. ltb g.right g.left && ltb g.left g.lit) d.gates

-- Clause 5.3: operands are neither constant nor equal nor opposite
unfoldable pub plain : Gate → Bool
plain g = leb 2 g.left && leb 2 g.right && not (eqb (var g.left) (var g.right))

-- gates with the same operands
unfoldable pub alike : Gate → Gate → Bool
alike g h = eqb g.left h.left && eqb g.right h.right

-- Clause 5.5: every gate leads to the output: v is the output's variable, or an operand of a gate that leads to it, within n gates
unfoldable pub leads : Circuit → ℕ → ℕ → Bool
leads d zero v = eqb v (var (output d))
leads d (suc n) v =
    eqb v (var (output d)) || any (λ g. member v (var g.left ∷ var g.right ∷ []) && leads d n (var g.lit)) d.gates

-- literals l and m are equal in function, or opposite
unfoldable pub twins : Circuit → ℕ → ℕ → ℕ → Bool
twins d n l m =
    every_below (2 ^ n) (λ x. beq (value_on d n x l) (value_on d n x m))
    || every_below (2 ^ n) (λ x. not (beq (value_on d n x l) (value_on d n x m)))

-- Clause 5.6: no two gates have one function or opposite ones, and none has that of a constant, an input or its complement
unfoldable pub reduced : Circuit → ℕ → Bool
reduced d n =
    pairwise (λ g h. not (twins d n g.lit h.lit)) d.gates
    && every (λ g. every (λ l. not (twins d n l g.lit)) (0 ∷ d.inputs)) d.gates

-- the complement of a literal
abbrev pub complement : ℕ → ℕ
complement l = 2 * var l + (1 - l % 2)

-- literal l is one of two operands
abbrev pub among : ℕ → ℕ → ℕ → Bool
among left right l = eqb l left || eqb l right

-- a is repeated one gate down, where o is a gate of these operands or its complement: (a and y), (not a and y) or not (not a and y)
unfoldable pub repeated : ℕ → ℕ → ℕ → ℕ → Bool
repeated left right o a = among left right (complement a) || (not (odd o) && among left right a)

-- gate g has an operand that is repeated one gate down, in gate h
unfoldable pub repeated_in : Gate → Gate → Bool
repeated_in g h =
    (eqb (var h.lit) (var g.left) && repeated h.left h.right g.left g.right)
    || (eqb (var h.lit) (var g.right) && repeated h.left h.right g.right g.left)

-- the rules of a fold d of c for bad line b at frame t, one by one
abbrev pub fold_rules : Circuit → ℕ → ℕ → Circuit → List Bool
fold_rules c b t d =
    -- inputs, output and gates as above
    shaped (free_bits c t) d
    -- the operands of a gate are of two variables, none of them the constant
    ∷ every plain d.gates
    -- a pair of operands stands once
    ∷ pairwise (λ g h. not (alike g h)) d.gates
    -- no gate has an operand that is repeated one gate down
    ∷ every (λ g. every (λ h. not (repeated_in g h)) d.gates) d.gates
    -- every gate leads to the output
    ∷ every (λ g. leads d (length d.gates) (var g.lit)) d.gates
    -- with twelve free bits or fewer no gate is equal or opposite in function to another, to a constant or to an input
    ∷ (ltb 12 (free_bits c t) || reduced d (free_bits c t))
    -- the output is the hit
    ∷ every_below (2 ^ free_bits c t) (λ x. beq (value_on d (free_bits c t) x (output d)) (reaches c b t x))
    ∷ []

-- d is a fold of c for bad line b at frame t
unfoldable pub folds : Circuit → ℕ → ℕ → Circuit → Bool
folds c b t d = all (fold_rules c b t d)
