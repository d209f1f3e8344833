-- `decision::prepare` meets its contract. Assumes nothing.
use borrow.Author.Rules.{rules}
use Rattle.decision.proofs.prepare.Statement.{statement}
use Rattle.decision.proofs.prepare.Tie as tie

prepare-aim-requires : tie.Need-prepare_aim-requires
prepare-aim-requires c κs = c.requires

same_length : tie.Need-shape_of-work
same_length c = c.prepare_aim.auto.work

returns : tie.Need-returns
returns c = c.prepare_aim.ensures

pub prepare_spec : {M : Type 1} → statement M
prepare_spec =
    tie.close
    (tie.spec prepare-aim-requires same_length returns)
