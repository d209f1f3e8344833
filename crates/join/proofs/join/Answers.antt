-- `join::join` meets its contract: each answer by the tests of the memories and by the tests of the counts. Assumes nothing.
use Rattle.std.proofs.Common.{inl, inr}
use Rattle.joined.specs.Joined.{JoinedInto}
use Rattle.join.proofs.Answers.{small, refuses-in, stores-in}
use Rattle.join.proofs.join.Goals as goal

pub returns-in_default : goal.returns-in_default
returns-in_default c = JoinedInto.no_circuit (inl (rw c.in_default.is at c.test.ensures))

pub returns-in_default-test : goal.returns-in_default-test
returns-in_default-test c = JoinedInto.no_circuit (inr (rw c.in_default-test.is at c.test-2.ensures))

pub check_join-requires : goal.check_join-requires
check_join-requires c =
    let t = rw c.in-Some.is at c.test.ensures in
    let u = rw c.in-Some-test.is at c.test-2.ensures in (small t.0 t.1, small u.0 u.1)

pub returns-in-Err : goal.returns-in-Err
returns-in-Err c =
    let t = rw c.in-Some.is at c.test.ensures in
    let u = rw c.in-Some-test.is at c.test-2.ensures in
    rw c.number.ensures (refuses-in t.1 t.0 u.1 u.0 (rw c.in-Err.is at c.check_join.ensures))

pub join_held-requires : goal.join_held-requires
join_held-requires c =
    let t = rw c.in-Some.is at c.test.ensures in
    let u = rw c.in-Some-test.is at c.test-2.ensures in
    record { holds = (t.1, t.0, u.1, u.0); joins = (rw c.in_default-check_join.is at c.check_join.ensures).passes }

pub joined_counts-requires : goal.joined_counts-requires
joined_counts-requires c =
    let t = rw c.in-Some.is at c.test.ensures in
    let u = rw c.in-Some-test.is at c.test-2.ensures in (small t.0 t.1, small u.0 u.1)

pub shape_of-third : goal.shape_of-third
shape_of-third c = c.join_held.auto.m

pub returns : goal.returns
returns c =
    let t = rw c.in-Some.is at c.test.ensures in
    let u = rw c.in-Some-test.is at c.test-2.ensures in
    stores-in t.1 t.0 u.1 u.0 (rw c.in_default-check_join.is at c.check_join.ensures) c.join_held.ensures c.joined_counts.ensures
