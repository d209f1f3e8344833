-- `unroll::unroll` meets its contract. Assumes nothing.
use borrow.Author.Rules.{rules}
use Rattle.unroll.proofs.unroll.Statement.{statement}
use Rattle.unroll.proofs.unroll.Tie as tie

unroll-aim-requires : tie.Need-unroll_aim-requires
unroll-aim-requires c κs = c.requires

same_length : tie.Need-shape_of-work
same_length c = c.unroll_aim.auto.work

returns : tie.Need-returns
returns c = c.unroll_aim.ensures

pub unroll_spec : {M : Type 1} → statement M
unroll_spec =
    tie.close
    (tie.spec unroll-aim-requires same_length returns)
