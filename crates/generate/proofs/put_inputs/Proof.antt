-- `generate::put_inputs` meets its contract. The loop's invariant: the lines are written but for those that are left. The measure is the
-- number of inputs left. Assumes nothing.
use mathlib.Core.Path.{◌≡◌, refl}
use Prim.Native.Nat.{ℕ, ◌+◌, ◌-◌, ◌*◌, ◌≤◌}
use native.Mathlib.Omega.{arith}
use borrow.Author.Rules.{rules}
use Rattle.output.specs.Row.{number_text}
use Rattle.output.proofs.Output.{Rest, rest-start, rest-room, rest_more, rest_end}
use Rattle.generated.specs.Parts.{inputs_text}
use Rattle.generate.proofs.Lines.{inputs-next, inputs-done}
use Rattle.generate.proofs.put_inputs.Statement.{statement}
use Rattle.generate.proofs.put_inputs.Tie as tie

abbrev invariant-loop : tie.invariant-loop-left
invariant-loop out₀ at first n end₀ v₀ left₀ out end v left =
    (v + left ≡ first + n) × Rest out₀ at (inputs_text first n) out end (inputs_text v left)

abbrev decreases-loop : tie.decreases-loop-left
decreases-loop out₀ at first n end₀ v₀ left₀ out end v left = left

loop-holds : tie.Need-loop-left-init invariant-loop decreases-loop
loop-holds c =
    let a = c.args in
    (refl, rest-start a.out.now a.at (inputs_text a.first a.n))

mul-put-ended : tie.Need-overflow_mul-v invariant-loop decreases-loop
mul-put-ended c = omega (arith, c.requires.0, c.loop-left.invariant.0)

put-ended-requires : tie.Need-put_ended-end-requires invariant-loop decreases-loop
put-ended-requires c κs =
    rest-room (number_text (2 * c.loop-left.v) 0) (inputs_text (c.loop-left.v + 1) (c.loop-left.left - 1)) c.requires.1
    (rw (inputs-next c.loop-left.v c.loop-left.left c.loop-left-test.true) at c.loop-left.invariant.1)

add-v : tie.Need-overflow_add-v invariant-loop decreases-loop
add-v c = omega (arith, c.requires.0, c.loop-left.invariant.0)

sub-left : tie.Need-overflow_sub-left invariant-loop decreases-loop
sub-left c = omega (arith, c.loop-left-test.true)

loop-less : tie.Need-loop-left-smaller invariant-loop decreases-loop
loop-less c = omega (arith, c.loop-left-test.true)

loop-again : tie.Need-loop-left-preserved invariant-loop decreases-loop
loop-again c =
    let t = c.loop-left-test.true in (
      omega (arith, c.loop-left.invariant.0, t),
      rest_more (number_text (2 * c.loop-left.v) 0) (inputs_text (c.loop-left.v + 1) (c.loop-left.left - 1)) c.requires.1
          (rw (inputs-next c.loop-left.v c.loop-left.left t) at c.loop-left.invariant.1) c.put_ended-end.ensures,
    )

same_length : tie.Need-shape_of-out invariant-loop decreases-loop
same_length c = c.loop-left.invariant.1.kept

returns : tie.Need-returns invariant-loop decreases-loop
returns c =
    rest_end (rw (inputs-done c.loop-left.v c.loop-left.left c.loop-left-test.false) at c.loop-left.invariant.1)

pub put_inputs_spec : {M : Type 1} → statement M
put_inputs_spec =
    tie.close
    (tie.spec invariant-loop decreases-loop loop-holds mul-put-ended put-ended-requires add-v sub-left loop-less loop-again same_length returns)
