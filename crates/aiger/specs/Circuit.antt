-- A circuit as a plain record, and the causes 6, 7 and 8. Lists stand in file order; the numbers in them are literals.
-- Assumes nothing.
use Rattle.std.specs.Prelude.{Bool, true, false, not, cond, ◌&&◌, ◌||◌, List, [], ◌∷◌, ◌++◌, map, ℕ, zero, suc, ◌+◌, ◌*◌, ◌/◌, leb, eqb, length}
use Rattle.std.proofs.Math.Option.{Option, none, some}
use Rattle.aiger.specs.Lists.{all, every, member, distinct}
use Rattle.aiger.specs.Bits.{odd}

-- Clause 1.5: a latch, its next literal and its reset, which is 0, 1 or, for a free start, the latch itself; 0 where the line has none
pub record Latch : Type 0 where
  pub lit : ℕ
  pub next : ℕ
  pub reset : ℕ

-- Clause 1.6: a gate and its two operands
pub record Gate : Type 0 where
  pub lit : ℕ
  pub left : ℕ
  pub right : ℕ

-- max_var is M, the greatest variable number
pub record Circuit : Type 0 where
  pub max_var : ℕ
  pub inputs : List ℕ
  pub latches : List Latch
  pub outputs : List ℕ
  pub bads : List ℕ
  pub constraints : List ℕ
  pub gates : List Gate

-- Clause 1.8: literal 2v stands for variable v, 2v + 1 for its complement
abbrev pub var : ℕ → ℕ
var l = l / 2

-- the literals that definitions have: inputs, latches, gates
unfoldable pub defined : Circuit → List ℕ
defined c = c.inputs ++ map (λ l. l.lit) c.latches ++ map (λ g. g.lit) c.gates

-- the literals whose values are asked for
unfoldable pub used : Circuit → List ℕ
used c =
    map (λ l. l.next) c.latches ++ c.outputs ++ c.bads ++ c.constraints
    ++ map (λ g. g.left) c.gates ++ map (λ g. g.right) c.gates

-- Clause 1.9: each literal is at most 2M + 1; what is defined is even, at least 2 and not defined twice; each reset is right
abbrev pub literal_tests : Circuit → List Bool
literal_tests c =
    every (λ l. leb l (2 * c.max_var + 1)) (defined c ++ used c)
    ∷ every (λ l. leb 2 l && not (odd l)) (defined c)
    ∷ distinct (defined c)
    ∷ every (λ l. leb l.reset 1 || eqb l.reset l.lit) c.latches
    ∷ []

-- Clause 6.1, number 6: all of these hold
unfoldable pub literals_right : Circuit → Bool
literals_right c = all (literal_tests c)

-- Clause 6.1, number 7: each variable that is used has a definition; variable 0 is the constant
unfoldable pub used_defined : Circuit → Bool
used_defined c = every (λ l. member (var l) (0 ∷ map var (defined c))) (used c)

-- the gate that defines a variable
unfoldable pub gate_of : List Gate → ℕ → Option Gate
gate_of [] v = none
gate_of (g ∷ gs) v = cond (eqb (var g.lit) v) (some g) (gate_of gs v)

-- p holds of both operands' variables; where there is no gate, nothing is asked
unfoldable pub operands : Option Gate → (ℕ → Bool) → Bool
operands none p = true
operands (some g) p = p (var g.left) && p (var g.right)

-- Every way from variable v leaves the gates within n steps, where a step goes from a gate to one of its operands:
-- - a variable that no gate defines is outside: no step leads from it, and nothing is asked;
-- - with no step left, v must be such a variable;
-- - else both operands must leave within one step less
unfoldable pub settles : List Gate → ℕ → ℕ → Bool
settles gs zero v = operands (gate_of gs v) (λ _. false)
settles gs (suc n) v = operands (gate_of gs v) (settles gs n)

-- Clause 6.1, number 8: no gate depends on itself:
-- - a gate that depends on itself lies on a way that never leaves the gates;
-- - a way that is longer than the number of gates has met a gate twice;
-- - so it is enough that from each gate every way leaves within as many steps as there are gates
unfoldable pub acyclic : Circuit → Bool
acyclic c = every (λ g. settles c.gates (length c.gates) (var g.lit)) c.gates
