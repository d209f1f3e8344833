-- `pinned_fold::fold_held` meets its contract. Assumes nothing.
use Rattle.aiger.specs.Operations.{Operated}
use Rattle.limits.proofs.Sizes.{counts_of, limited}
use Rattle.pins.specs.Pins.{pins_of}
use Rattle.pinned_fold.proofs.Answers.{refused-with, answered-with}
use Rattle.pinned_fold.proofs.fold_held.Goals as goal

pub returns-in_default : goal.returns-in_default
returns-in_default c = Operated.no_circuit (rw c.in_default.is at c.test.ensures)

pub check_fold-requires : goal.check_fold-requires
check_fold-requires c = let h = rw c.in-Some.is at c.test.ensures in limited h.1 h.0

pub returns-in-Err : goal.returns-in-Err
returns-in-Err c =
    let h = rw c.in-Some.is at c.test.ensures in
    rw c.number.ensures
    (refused-with (pins_of c.args.pins.now c.args.user) h.1 (rw c.in-Err.is at (c.check_fold.ensures _ (counts_of h.1 h.0))))

pub fold_known-requires : goal.fold_known-requires
fold_known-requires c =
    let h = rw c.in-Some.is at c.test.ensures in
    record {
      held = h.1;
      layout_of = h.0;
      user-of = c.requires;
      tests = rw c.in_default-check_fold.is at (c.check_fold.ensures _ (counts_of h.1 h.0));
    }

pub shape_of-work : goal.shape_of-work
shape_of-work c = c.fold_known.auto.work

pub shape_of-out : goal.shape_of-out
shape_of-out c = c.fold_known.auto.out

pub returns : goal.returns
returns c =
    let h = rw c.in-Some.is at c.test.ensures in
    answered-with (pins_of c.args.pins.now c.args.user) h.1 (rw c.in_default-check_fold.is at (c.check_fold.ensures _ (counts_of h.1 h.0)))
    c.fold_known.ensures
