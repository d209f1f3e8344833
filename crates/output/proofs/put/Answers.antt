-- `output::put` meets its contract. Assumes nothing.
use Rattle.std.proofs.Common.{length, refl, arith}
use Rattle.output.proofs.Output.{copied_whole}
use Rattle.output.proofs.put.Goals as goal

pub returns : goal.returns
returns c =
    let a = c.args in
    record { past = refl; contents = copied_whole a.out.now a.text.now c.copy_from_slice.new.self a.at c.copy_from_slice.ensures.after }
