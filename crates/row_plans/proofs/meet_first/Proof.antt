-- `row_plans::meet_first` meets its contract. Assumes nothing.
use mathlib.Core.Path.{◌∙◌}
use Prim.Native.Nat.{◌-◌}
use Rattle.layout.specs.Words.{circuit_in}
use Rattle.row_plans.specs.Plans.{meeting_of}
use Rattle.row_plans.proofs.Steps.{first-yes, first-no}
use Rattle.row_plans.proofs.meet_first.Statement.{statement}
use Rattle.row_plans.proofs.meet_first.Tie as tie

meet-gates-requires : tie.Need-meet_gates-requires
meet-gates-requires c κs = c.requires

same_length : tie.Need-shape_of-marks-then-which-gt1
same_length c = c.meet_gates.auto.marks

same-length-2 : tie.Need-shape_of-list-then-which-gt1
same-length-2 c = c.meet_gates.auto.list

returns : tie.Need-returns-then-which-gt1
returns c =
    let a = c.args in
    c.meet_gates.ensures ∙ first-yes (circuit_in a.m.now) a.order.now a.which (meeting_of a.marks.now a.list.now 0) c.if-which-gt1.true

returns-2 : tie.Need-returns
returns-2 c =
    let a = c.args in
    first-no (circuit_in a.m.now) a.order.now a.which (meeting_of a.marks.now a.list.now 0) c.if-which-gt1.false

pub meet_first_spec : {M : Type 1} → statement M
meet_first_spec =
    tie.close
    (tie.spec meet-gates-requires same_length same-length-2 returns returns-2)
