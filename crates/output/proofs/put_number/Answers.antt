-- `output::put_number`: the digits of a number that may be longer are those of this one. Assumes nothing.
use Rattle.std.proofs.Common.{arith, List, ℕ, subst, sym}
use Rattle.numbers.proofs.Digits.{long_same}
use Rattle.output.specs.Output.{Room, Placed}
use Rattle.output.proofs.put_number.Goals as goal

pub put_long-requires : goal.put_long-requires
put_long-requires c =
    rw c.from.ensures (subst (Room c.args.out.now c.args.at) (sym (long_same c.args.n (omega arith))) c.requires)

pub returns : goal.returns
returns c =
    let a = c.args in
    subst (λ (t : List ℕ). Placed a.out.now a.at t c.put_long.result c.put_long.new.out) (long_same a.n (omega arith))
    (rw c.from.ensures at c.put_long.ensures)
