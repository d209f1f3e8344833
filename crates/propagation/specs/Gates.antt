-- Propagation through gates, as functions of the words. Assumes nothing.
use Rattle.std.specs.Prelude.{Bool, not, cond, Option, Some, None, List, ℕ, zero, suc, ◌+◌, ◌-◌, ◌*◌, ◌/◌, ◌%◌, eqb, leb}
use Rattle.memory.specs.Record.{undef, field, opposite}
use Rattle.memory.specs.declared.Netlist.{Netlist}
use Rattle.trail.specs.declared.State.{State}
use Rattle.propagation.specs.declared.Consequence.{Consequence}
use Rattle.propagation.specs.declared.Consequence.TheVariants.{LeftViolated, RightViolated, BothViolated, LeftTrue, RightTrue, RightFalse, LeftFalse, FalseByLeft, FalseByRight, True}
use Rattle.trail.specs.Trail.{Stood, stood, value, assigned}

unfoldable pub rule_true : ℕ → ℕ → Option Consequence
rule_true x y =
    cond (eqb x 0) (Some LeftViolated) (cond (eqb y 0) (Some RightViolated) (cond (eqb x 2) (Some LeftTrue) (cond (eqb y 2) (Some RightTrue) None)))

unfoldable pub rule_false : ℕ → ℕ → Option Consequence
rule_false x y =
    cond (eqb x 1) (cond (eqb y 1) (Some BothViolated) (cond (eqb y 2) (Some RightFalse) None))
    (cond (eqb x 2) (cond (eqb y 1) (Some LeftFalse) None) None)

unfoldable pub rule : ℕ → ℕ → ℕ → Option Consequence
rule o x y =
    cond (eqb o 1) (rule_true x y) (cond (eqb o 0) (rule_false x y)
    (cond (eqb x 0) (Some FalseByLeft) (cond (eqb y 0) (Some FalseByRight) (cond (eqb x 1) (cond (eqb y 1) (Some True) None) None))))

abbrev pub violated : State → ℕ → State
violated s why =
    record {
      length = s.length;
      next = s.next;
      level = s.level;
      ticks = s.ticks;
      clash = why;
      clause = s.clause;
      link = s.link;
    }

-- a literal and the clause by which it is implied, or the violated clause: 4g and 4g + 1 say that gate g is false or its left or right
-- operand true, 4g + 2 that it is true or one of them false
unfoldable pub applied : List ℕ → Netlist → State → ℕ → Consequence → Stood
applied w net s g LeftViolated = stood w (violated s (4 * g))
applied w net s g RightViolated = stood w (violated s (4 * g + 1))
applied w net s g BothViolated = stood w (violated s (4 * g + 2))
applied w net s g LeftTrue = assigned w net s (field w net.nodes g 0) (4 * g)
applied w net s g RightTrue = assigned w net s (field w net.nodes g 1) (4 * g + 1)
applied w net s g RightFalse = assigned w net s (opposite (field w net.nodes g 1)) (4 * g + 2)
applied w net s g LeftFalse = assigned w net s (opposite (field w net.nodes g 0)) (4 * g + 2)
applied w net s g FalseByLeft = assigned w net s (2 * g + 1) (4 * g)
applied w net s g FalseByRight = assigned w net s (2 * g + 1) (4 * g + 1)
applied w net s g True = assigned w net s (2 * g) (4 * g + 2)

-- if anything is implied
unfoldable pub followed : List ℕ → Netlist → State → ℕ → Option Consequence → Stood
followed w net s g None = stood w s
followed w net s g (Some r) = applied w net s g r

unfoldable pub looked : List ℕ → Netlist → State → ℕ → Stood
looked w net s g =
    cond (leb 1073741823 g) (stood w s)
    (followed w net s g
    (rule (value w net.nodes (2 * g)) (value w net.nodes (field w net.nodes g 0))
    (value w net.nodes (field w net.nodes g 1))))

-- what the values of gate g and of its operands imply
unfoldable pub gate_rule : List ℕ → ℕ → ℕ → Option Consequence
gate_rule w nodes g =
    cond (leb 1073741823 g) None (rule (value w nodes (2 * g)) (value w nodes (field w nodes g 0)) (value w nodes (field w nodes g 1)))

unfoldable pub next_fan : List ℕ → ℕ → ℕ → ℕ
next_fan w nodes e = cond (eqb (e % 2) 0) (field w nodes (e / 2) 12) (field w nodes (e / 2) 13)

-- n fan-outs from e on, until a clause is violated
unfoldable pub looked_up : List ℕ → Netlist → State → ℕ → ℕ → Stood
looked_up w net s e zero = stood w s
looked_up w net s e (suc n) =
    cond (eqb e 0) (stood w s)
    (cond (eqb s.clash undef) (looked_up (looked w net s (e / 2)).words net (looked w net s (e / 2)).state
    (next_fan w net.nodes e) n)
    (stood w s))
