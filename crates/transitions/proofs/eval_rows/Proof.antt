-- `transitions::eval_rows` meets its contract. Assumes nothing.
use mathlib.Core.Path.{◌≡◌, refl, sym, ap, ap₂, ◌∙◌, subst}
use Prim.Native.Nat.{ℕ, ◌+◌, ◌-◌, ◌*◌, ◌/◌, ◌%◌, ◌^◌, ◌≤◌, ◌<◌}
use native.Mathlib.Omega.{arith}
use lib.ListN.{length, set, length-set}
use lib.Seq.{get_or-set_same}
use Rattle.frames.proofs.Facts.{right, ready_with}
use Rattle.frames.proofs.Places.{inputs_are}
use Rattle.states.specs.Number.{number_at}
use Rattle.influence.specs.Part.{part_in}
use Rattle.transitions.proofs.Rows.{rows-valued}
use borrow.Author.Rules.{rules}
use Rattle.transitions.proofs.eval_rows.Statement.{statement}
use Rattle.transitions.proofs.eval_rows.Tie as tie

put-latches-requires : tie.Need-put_latches-requires
put-latches-requires c κs = (
  c.requires.0.held,
  (
    c.requires.0.layout_of,
    (
      simp length-set c.requires.0.room,
      c.requires.1.0,
      c.requires.1.1,
    ),
  ),
)

put-inputs-requires : tie.Need-put_inputs-requires
put-inputs-requires c κs =
    let Z : length c.put_latches.new.values ≡ length c.args.values.now = c.put_latches.auto.values ∙ simp length-set in (
      c.requires.0.held,
      (
        c.requires.0.layout_of,
        (
          omega (
            arith,
            Z,
            c.requires.0.room,
          ),
          omega arith,
        ),
      ),
    )

eval-gates-requires : tie.Need-eval_gates-requires
eval-gates-requires c κs =
    let Z : length c.put_latches.new.values ≡ length c.args.values.now = c.put_latches.auto.values ∙ simp length-set in
    ready_with c.requires.0 (omega (
      arith,
      c.put_inputs.auto.values,
      Z,
      c.requires.0.room,
    ))

same_length : tie.Need-shape_of-values
same_length c =
    let Z : length c.put_latches.new.values ≡
    length c.args.values.now = c.put_latches.auto.values ∙ simp length-set in
    c.eval_gates.auto.values ∙ c.put_inputs.auto.values ∙ Z

returns : tie.Need-returns
returns c =
    let v = c.args.values.now in
    let R = c.requires.0 in
    rows-valued (part_in c.args.m.now c.args.kept.now) c.requires.1.0 (right R.held) (number_at c.args.s.now 0 (length c.args.s.now)) c.args.block (set v 0 0) c.put_latches.new.values
    c.put_inputs.new.values c.eval_gates.new.values c.args.layout.i (inputs_are R.held R.layout_of)
    (get_or-set_same v 0 0 0 (omega (arith, R.room))) c.put_latches.ensures c.put_inputs.ensures c.eval_gates.ensures

pub eval_rows_spec : {M : Type 1} → statement M
eval_rows_spec =
    tie.close
    (tie.spec (λ c. search rules) put-latches-requires put-inputs-requires eval-gates-requires same_length returns)
