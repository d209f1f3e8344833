-- `blocks::put_frame` meets its contract. Assumes nothing.
use mathlib.Core.Path.{◌≡◌, ◌∙◌}
use Prim.Native.Nat.{◌+◌, ◌*◌, ◌<◌}
use native.Mathlib.Omega.{arith}
use borrow.Author.Rules.{rules}
use Rattle.frames.proofs.Places.{inputs-inside}
use Rattle.frames.proofs.Facts.{ready_with}
use Rattle.blocks.proofs.Runs.{inputs_apart, frame-given}
use Rattle.blocks.proofs.put_frame.Statement.{statement}
use Rattle.blocks.proofs.put_frame.Tie as tie

put-line-requires : tie.Need-put_line-next-requires
put-line-requires c κs =
    let R = c.requires.0 in
    record {
      words = λ i l. omega (arith, inputs-inside R.held R.layout_of);
      apart = inputs_apart R;
      inside = c.requires.1.0;
      before = c.requires.1.1;
    }

eval-gates-requires : tie.Need-eval_gates-requires
eval-gates-requires c κs =
    ready_with c.requires.0 (omega (arith, c.put_line-next.auto.values, c.requires.0.room))

same_length : tie.Need-shape_of-values
same_length c =
    c.eval_gates.auto.values ∙ c.put_line-next.auto.values

returns : tie.Need-returns
returns c =
    let a = c.args in (
      frame-given c.requires.0 a.text.now a.row.at a.row.block a.values.now c.put_line-next.new.values
          c.eval_gates.new.values c.put_line-next.ensures.0 c.eval_gates.ensures,
      c.put_line-next.ensures.1,
    )

pub put_frame_spec : {M : Type 1} → statement M
put_frame_spec = tie.close (tie.spec put-line-requires eval-gates-requires same_length returns)
