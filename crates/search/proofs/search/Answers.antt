-- `search::search` meets its contract: each answer by the test of the memory, by the tests 10 to 13, and by the search of the frames.
-- Assumes nothing.
use Rattle.std.proofs.Common.{arith}
use Rattle.aiger.specs.Operations.{Operated}
use Rattle.limits.proofs.Sizes.{counts_of, limited}
use Rattle.search.proofs.Answers.{refused-with, fits, answered-with}
use Rattle.search.proofs.search.Goals as goal

pub returns-in_default : goal.returns-in_default
returns-in_default c = Operated.no_circuit (rw c.in_default.is at c.held_in.ensures.0)

pub check_search-requires : goal.check_search-requires
check_search-requires c = let h = rw c.in-Some.is at c.held_in.ensures.0 in limited h.1 h.0

pub returns-in-Err : goal.returns-in-Err
returns-in-Err c =
    let h = rw c.in-Some.is at c.held_in.ensures.0 in
    rw c.number.ensures (refused-with h.1 (rw c.in-Err.is at (c.check_search.ensures _ (counts_of h.1 h.0))))

pub search_frames-requires : goal.search_frames-requires
search_frames-requires c =
    let h = rw c.in-Some.is at c.held_in.ensures.0 in
    fits h.1 h.0 h.2 (omega (arith, c.held_in.auto.order)) (rw c.in_default-check_search.is at (c.check_search.ensures _ (counts_of h.1 h.0)))

pub returns : goal.returns
returns c =
    let h = rw c.in-Some.is at c.held_in.ensures.0 in
    answered-with h.1 (rw c.in_default-check_search.is at (c.check_search.ensures _ (counts_of h.1 h.0))) c.search_frames.ensures
