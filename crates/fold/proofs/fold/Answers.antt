-- `fold::fold` meets its contract: each answer by the test of the memory, by the tests 10 to 13, and by the text that is written.
-- Assumes nothing.
use Rattle.std.proofs.Common.{arith}
use Rattle.aiger.specs.Operations.{Operated}
use Rattle.limits.proofs.Sizes.{counts_of, limited}
use Rattle.fold.proofs.Answers.{refused-with, fits, written-with}
use Rattle.fold.proofs.fold.Goals as goal

pub returns-in_default : goal.returns-in_default
returns-in_default c = Operated.no_circuit (rw c.in_default.is at c.held_in.ensures.0)

pub check_fold-requires : goal.check_fold-requires
check_fold-requires c = let h = rw c.in-Some.is at c.held_in.ensures.0 in limited h.1 h.0

pub returns-in-Err : goal.returns-in-Err
returns-in-Err c =
    let h = rw c.in-Some.is at c.held_in.ensures.0 in
    rw c.number.ensures (refused-with h.1 (rw c.in-Err.is at (c.check_fold.ensures _ (counts_of h.1 h.0))))

pub fold_frame-length-requires : goal.fold_frame-length-requires
fold_frame-length-requires c =
    let h = rw c.in-Some.is at c.held_in.ensures.0 in
    fits h.1 h.0 h.2 (omega (arith, c.held_in.auto.order)) (rw c.in_default-check_fold.is at (c.check_fold.ensures _ (counts_of h.1 h.0)))

pub returns : goal.returns
returns c =
    let h = rw c.in-Some.is at c.held_in.ensures.0 in
    written-with h.1 (rw c.in_default-check_fold.is at (c.check_fold.ensures _ (counts_of h.1 h.0))) c.fold_frame-length.ensures
