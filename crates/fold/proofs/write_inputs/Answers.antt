-- Each turn writes a line. Assumes nothing.
use mathlib.Core.Path.{◌≡◌}
use mathlib.Core.List.{List}
use Prim.Native.Nat.{ℕ, ◌+◌, ◌*◌}
use native.Mathlib.Omega.{arith}
use Rattle.output.specs.Row.{number_text}
use Rattle.fold.specs.Text.{inputs_text}
use Rattle.output.proofs.Output.{placed-none}
use Rattle.fold.proofs.Parts.{part_room, part-more}
use Rattle.fold.proofs.Lines.{inputs-more, inputs-none}
use Rattle.fold.proofs.write_inputs.Goals as goal

abbrev line : ℕ → List ℕ
line j = number_text (2 * (j + 1)) 0

pub loop-j-init : goal.loop-j-init
loop-j-init c = rw inputs-none (placed-none c.args.out.now c.args.at)

pub put_ended-end-requires : goal.put_ended-end-requires
put_ended-end-requires c =
    part_room inputs_text line inputs-more c.args.out.now c.args.at c.args.free c.requires.1 c.loop-j.j (omega arith) c.loop-j.invariant

pub loop-j-preserved : goal.loop-j-preserved
loop-j-preserved c =
    part-more inputs_text line inputs-more c.args.out.now c.args.at c.args.free c.requires.1 c.loop-j.j (omega arith) c.loop-j.invariant c.put_ended-end.ensures

pub returns : goal.returns
returns c =
    let e : c.loop-j.j ≡ c.args.free = omega arith in
    rw e at c.loop-j.invariant
