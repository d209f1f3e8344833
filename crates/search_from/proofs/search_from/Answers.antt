-- `search_from::search_from` meets its contract: each answer by the test of the memory, by the tests 10, 11, 19, 12 and 13, and by the search of the frame.
-- Assumes nothing.
use Rattle.std.proofs.Common.{refl, sym, arith}
use Rattle.aiger.specs.Operations.{Operated}
use Rattle.limits.proofs.Sizes.{counts_of, limited}
use Rattle.search_from.proofs.Answers.{refused-with, fits, answered-with}
use Rattle.search_from.proofs.search_from.Goals as goal

pub returns-in_default : goal.returns-in_default
returns-in_default c = Operated.no_circuit (rw c.in_default.is at c.held_in.ensures.0)

pub check_from-requires : goal.check_from-requires
check_from-requires c = let h = rw c.in-Some.is at c.held_in.ensures.0 in (limited h.1 h.0, omega arith)

pub returns-in-Err : goal.returns-in-Err
returns-in-Err c =
    let h = rw c.in-Some.is at c.held_in.ensures.0 in
    let n = counts_of h.1 h.0 in
    rw c.number.ensures (refused-with h.1 (rw c.in-Err.is at (c.check_from.ensures _ _ n (sym n.inputs) refl)))

pub search_ready-requires : goal.search_ready-requires
search_ready-requires c =
    let h = rw c.in-Some.is at c.held_in.ensures.0 in
    let n = counts_of h.1 h.0 in
    fits h.1 h.0 h.2 (omega (arith, c.held_in.auto.order)) (rw c.in_default-check_from.is at (c.check_from.ensures _ _ n (sym n.inputs) refl))

pub returns : goal.returns
returns c =
    let h = rw c.in-Some.is at c.held_in.ensures.0 in
    let n = counts_of h.1 h.0 in
    answered-with h.1 (rw c.in_default-check_from.is at (c.check_from.ensures _ _ n (sym n.inputs) refl)) c.search_ready.ensures
