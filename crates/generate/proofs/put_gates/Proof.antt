-- `generate::put_gates` meets its contract. The loop's invariant: the lines are written but for those that are left. The measure is the
-- number of gates left. Assumes nothing.
use mathlib.Core.Path.{◌≡◌, refl, ◌∙◌}
use mathlib.Core.List.{[], ◌∷◌}
use Prim.Native.Nat.{ℕ, ◌+◌, ◌-◌, ◌*◌, ◌≤◌, ◌<◌}
use native.Mathlib.Omega.{arith}
use borrow.Author.Rules.{rules}
use Rattle.aiger.specs.Write.{line_of}
use Rattle.output.proofs.Output.{Rest, rest-start, rest-room, rest_more, rest_end}
use Rattle.generated.specs.Parts.{gates_text}
use Rattle.generate.proofs.Lines.{gate-line, gates-done}
use Rattle.generate.proofs.put_gates.Statement.{statement}
use Rattle.generate.proofs.put_gates.Tie as tie

abbrev invariant-loop : tie.invariant-loop-left
invariant-loop out₀ first n end₀ state₀ v₀ left₀ out end state v left =
    (v + left ≡ first + n)
    × (0 < v)
    × Rest out₀ end₀ (gates_text state₀.state first n) out end (gates_text state.state v left)

abbrev decreases-loop : tie.decreases-loop-left
decreases-loop out₀ first n end₀ state₀ v₀ left₀ out end state v left = left

loop-holds : tie.Need-loop-left-init invariant-loop decreases-loop
loop-holds c =
    let a = c.args in
    (refl, c.requires.0, rest-start a.out.now a.from.at (gates_text a.from.generator.state a.first a.n))

mul-own : tie.Need-overflow_mul-own invariant-loop decreases-loop
mul-own c = omega (arith, c.requires.1, c.loop-left.invariant.0)

choose-operands-requires : tie.Need-choose_operands-of-requires invariant-loop decreases-loop
choose-operands-requires c κs = omega (arith, c.loop-left.invariant.1)

put-three-requires : tie.Need-put_three-end-requires invariant-loop decreases-loop
put-three-requires c κs =
    rest-room (line_of (2 * c.loop-left.v) (c.choose_operands-of.result.left ∷ c.choose_operands-of.result.right ∷ [])) (gates_text c.choose_operands-of.result.generator.state (c.loop-left.v + 1) (c.loop-left.left - 1))
    c.requires.2
    (rw (gate-line c.loop-left.state c.choose_operands-of.result c.loop-left.v c.loop-left.left c.choose_operands-of.ensures c.loop-left-test.true) at c.loop-left.invariant.2)

add-v : tie.Need-overflow_add-v invariant-loop decreases-loop
add-v c = omega (arith, c.requires.1, c.loop-left.invariant.0)

sub-left : tie.Need-overflow_sub-left invariant-loop decreases-loop
sub-left c = omega (arith, c.loop-left-test.true)

loop-less : tie.Need-loop-left-smaller invariant-loop decreases-loop
loop-less c = omega (arith, c.loop-left-test.true)

loop-again : tie.Need-loop-left-preserved invariant-loop decreases-loop
loop-again c =
    let t = c.loop-left-test.true in (
      omega (arith, c.loop-left.invariant.0, t),
      omega (arith, c.loop-left.invariant.1),
      rest_more (line_of (2 * c.loop-left.v) (c.choose_operands-of.result.left ∷ c.choose_operands-of.result.right ∷ [])) (gates_text c.choose_operands-of.result.generator.state (c.loop-left.v + 1) (c.loop-left.left - 1))
          c.requires.2
          (rw (gate-line c.loop-left.state c.choose_operands-of.result c.loop-left.v c.loop-left.left c.choose_operands-of.ensures t) at c.loop-left.invariant.2)
          c.put_three-end.ensures,
    )

same_length : tie.Need-shape_of-out invariant-loop decreases-loop
same_length c = c.loop-left.invariant.2.kept

returns : tie.Need-returns invariant-loop decreases-loop
returns c =
    rest_end (rw (gates-done c.loop-left.state.state c.loop-left.v c.loop-left.left c.loop-left-test.false) at c.loop-left.invariant.2)

pub put_gates_spec : {M : Type 1} → statement M
put_gates_spec =
    tie.close
    (tie.spec invariant-loop decreases-loop loop-holds mul-own choose-operands-requires put-three-requires add-v sub-left loop-less loop-again same_length returns)
