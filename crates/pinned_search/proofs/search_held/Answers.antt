-- `pinned_search::search_held` meets its contract. Assumes nothing.
use Rattle.aiger.specs.Operations.{Operated}
use Rattle.limits.proofs.Sizes.{counts_of, limited}
use Rattle.pins.specs.Pins.{pins_of}
use Rattle.pinned_search.proofs.Answers.{refused-with, answered}
use Rattle.pinned_search.proofs.search_held.Goals as goal

pub returns-in_default : goal.returns-in_default
returns-in_default c = Operated.no_circuit (rw c.in_default.is at c.test.ensures)

pub check_search-requires : goal.check_search-requires
check_search-requires c = let h = rw c.in-Some.is at c.test.ensures in limited h.1 h.0

pub returns-in-Err : goal.returns-in-Err
returns-in-Err c =
    let h = rw c.in-Some.is at c.test.ensures in
    rw c.number.ensures
    (refused-with (pins_of c.args.pins.now c.args.user) h.1 (rw c.in-Err.is at (c.check_search.ensures _ (counts_of h.1 h.0))))

pub search_known-requires : goal.search_known-requires
search_known-requires c =
    let h = rw c.in-Some.is at c.test.ensures in
    record {
      held = h.1;
      layout_of = h.0;
      user-of = c.requires;
      tests = rw c.in_default-check_search.is at (c.check_search.ensures _ (counts_of h.1 h.0));
    }

pub shape_of-work : goal.shape_of-work
shape_of-work c = c.search_known.auto.work

pub shape_of-out : goal.shape_of-out
shape_of-out c = c.search_known.auto.out

pub returns : goal.returns
returns c =
    let h = rw c.in-Some.is at c.test.ensures in
    answered (pins_of c.args.pins.now c.args.user) h.1 (rw c.in_default-check_search.is at (c.check_search.ensures _ (counts_of h.1 h.0)))
    c.search_known.ensures
