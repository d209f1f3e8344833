-- `enumeration::first_frame` meets its contract. Assumes nothing.
use mathlib.Core.Path.{◌≡◌, ◌∙◌}
use native.Mathlib.Omega.{arith}
use lib.ListN.{length, set, length-set}
use lib.Seq.{get_or-set_same}
use Rattle.frames.proofs.Facts.{ready_with}
use Rattle.enumeration.proofs.first_frame.Statement.{statement}
use Rattle.enumeration.proofs.first_frame.Tie as tie

slice-write-values : tie.Need-bounds-values-0
slice-write-values c = omega (arith, c.requires.0.room)

put-starts-requires : tie.Need-put_starts-requires
put-starts-requires c κs = (c.requires.0.held, (c.requires.0.layout_of, (simp length-set c.requires.0.room, c.requires.1.0)))

put-inputs-requires : tie.Need-put_inputs-requires
put-inputs-requires c κs =
    let Z : length c.put_starts.new.values ≡ length c.args.values.now = c.put_starts.auto.values ∙ simp length-set in
    let R = c.requires.0 in
    (R.held, (R.layout_of, (omega (arith, Z, R.room), c.requires.1.1)))

eval-gates-requires : tie.Need-eval_gates-requires
eval-gates-requires c κs =
    let Z : length c.put_starts.new.values ≡ length c.args.values.now = c.put_starts.auto.values ∙ simp length-set in
    ready_with c.requires.0 (omega (arith, c.put_inputs.auto.values, Z, c.requires.0.room))

constrain-requires : tie.Need-constrain-requires
constrain-requires c κs =
    let Z : length c.put_starts.new.values ≡ length c.args.values.now = c.put_starts.auto.values ∙ simp length-set in
    ready_with c.requires.0 (omega (arith, c.eval_gates.auto.values, c.put_inputs.auto.values, Z, c.requires.0.room))

same_length : tie.Need-shape_of-values
same_length c =
    let Z : length c.put_starts.new.values ≡ length c.args.values.now = c.put_starts.auto.values ∙ simp length-set in
    c.eval_gates.auto.values ∙ c.put_inputs.auto.values ∙ Z

returns : tie.Need-returns
returns c =
    let values = c.args.values.now in
    record {
      cleared = set values 0 0;
      started = c.put_starts.new.values;
      filled = c.put_inputs.new.values;
      constant = get_or-set_same values 0 0 0 (omega (arith, c.requires.0.room));
      starts = c.put_starts.ensures;
      inputs = c.put_inputs.ensures;
      evaluated = c.eval_gates.ensures;
      constrained = c.constrain.ensures;
    }

pub first_frame_spec : {M : Type 1} → statement M
first_frame_spec =
    tie.close
    (tie.spec slice-write-values put-starts-requires put-inputs-requires eval-gates-requires constrain-requires same_length returns)
