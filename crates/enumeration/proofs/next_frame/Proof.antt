-- `enumeration::next_frame` meets its contract. Assumes nothing.
use mathlib.Core.Path.{◌∙◌}
use native.Mathlib.Omega.{arith}
use Rattle.frames.proofs.Facts.{ready_with}
use Rattle.enumeration.proofs.next_frame.Statement.{statement}
use Rattle.enumeration.proofs.next_frame.Tie as tie

advance-requires : tie.Need-advance-requires
advance-requires c κs = (c.requires.0, c.requires.1.1)

put-inputs-requires : tie.Need-put_inputs-requires
put-inputs-requires c κs =
    let R = c.requires.0 in
    (R.held, (R.layout_of, (omega (arith, c.advance.auto.values, R.room), c.requires.1.0)))

eval-gates-requires : tie.Need-eval_gates-requires
eval-gates-requires c κs = ready_with c.requires.0 (omega (arith, c.put_inputs.auto.values, c.advance.auto.values, c.requires.0.room))

constrain-requires : tie.Need-constrain-requires
constrain-requires c κs =
    ready_with c.requires.0 (omega (arith, c.eval_gates.auto.values, c.put_inputs.auto.values, c.advance.auto.values, c.requires.0.room))

same_length : tie.Need-shape_of-values
same_length c = c.eval_gates.auto.values ∙ c.put_inputs.auto.values ∙ c.advance.auto.values

same-length-2 : tie.Need-shape_of-state
same-length-2 c = c.advance.auto.state

returns : tie.Need-returns
returns c =
    record {
      moved = c.advance.new.values;
      filled = c.put_inputs.new.values;
      advanced = c.advance.ensures;
      inputs = c.put_inputs.ensures;
      evaluated = c.eval_gates.ensures;
      constrained = c.constrain.ensures;
    }

pub next_frame_spec : {M : Type 1} → statement M
next_frame_spec =
    tie.close
    (tie.spec advance-requires put-inputs-requires eval-gates-requires constrain-requires same_length same-length-2 returns)
