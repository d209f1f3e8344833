-- `compare_main::compare_with` meets its contract. Assumes nothing.
use Rattle.std.proofs.Common.{arith}
use Rattle.compare_main.proofs.Pairs.{pairs-few, pairs-held}
use Rattle.compare_main.proofs.compare_with.Goals as goal

pub say_pairs-requires : goal.say_pairs-requires
say_pairs-requires c =
    let w = c.join_files-joined in
    (pairs-few _ _ _ c.requires.2 w.ensures.joins, pairs-held _ _ _ c.requires.2 w.ensures.joins, omega (arith, w.auto.line))
