-- `limits::check_size` meets its contract. Assumes nothing.
use Rattle.std.proofs.Common.{arith, ◌∙◌}
use Rattle.limits.proofs.Sizes.{size_is}
use Rattle.limits.proofs.Refusals.{size-refused, room-refused, size-passes}
use Rattle.limits.proofs.check_size.Goals as goal

pub returns-then-units-gt65536 : goal.returns-then-units-gt65536
returns-then-units-gt65536 c =
    let a = c.args in
    record {
      tests = λ x e. let u = c.size-units.ensures ∙ size_is e a.k in size-refused x a.k a.room (omega arith);
      within = tt;
    }

pub returns-then-room-units : goal.returns-then-room-units
returns-then-room-units c =
    let a = c.args in
    record {
      tests = λ x e. let u = c.size-units.ensures ∙ size_is e a.k in room-refused x a.k a.room (omega arith) (omega arith);
      within = tt;
    }

pub returns : goal.returns
returns c =
    let a = c.args in
    let n = c.size-units.ensures in
    record {
      tests = λ x e. let u = n ∙ size_is e a.k in size-passes x a.k a.room (omega arith) (omega arith);
      within = record { small = omega arith; words = omega arith };
    }
