-- `row_plans::arrange` meets its contract. Assumes nothing.
use mathlib.Core.Path.{◌∙◌}
use Prim.Native.Nat.{◌-◌}
use Rattle.layout.specs.Words.{circuit_in}
use Rattle.row_plans.specs.Plans.{meeting_of}
use Rattle.row_plans.proofs.Steps.{meeting-is}
use Rattle.row_plans.proofs.arrange.Statement.{statement}
use Rattle.row_plans.proofs.arrange.Tie as tie

number-latches-requires : tie.Need-number_latches-requires
number-latches-requires c κs = c.requires.0

meet-first-requires : tie.Need-meet_first-n-requires
meet-first-requires c κs = c.requires.0

meet-latches-requires : tie.Need-meet_latches-requires
meet-latches-requires c κs = c.requires.0

same_length : tie.Need-shape_of-marks
same_length c = c.meet_latches.auto.marks ∙ c.meet_first-n.auto.marks ∙ c.number_latches.auto.marks

same-length-2 : tie.Need-shape_of-list
same-length-2 c = c.meet_latches.auto.list ∙ c.meet_first-n.auto.list

returns : tie.Need-returns
returns c =
    let a = c.args in
    meeting-is (circuit_in a.m.now) a.marks.now c.number_latches.new.marks a.order.now a.which a.latches.now a.list.now
    (meeting_of c.meet_first-n.new.marks c.meet_first-n.new.list c.meet_first-n.result) (meeting_of c.meet_latches.new.marks c.meet_latches.new.list c.meet_latches.result)
    c.number_latches.ensures c.requires.1 c.meet_first-n.ensures c.meet_latches.ensures

pub arrange_spec : {M : Type 1} → statement M
arrange_spec =
    tie.close
    (tie.spec number-latches-requires meet-first-requires meet-latches-requires same_length same-length-2 returns)
