-- `row_plans::make_plan` meets its contract. Assumes nothing.
use mathlib.Core.Path.{refl, ◌∙◌, subst}
use Prim.Native.Nat.{◌+◌, ◌-◌}
use native.Mathlib.Omega.{arith}
use borrow.Author.Rules.{rules}
use lib.Dec.{leb}
use lib.ListN.{length, get_or}
use Rattle.layout.specs.Words.{circuit_in}
use Rattle.layout.specs.Order.{depth_first}
use Rattle.meaning.specs.Frame.{input_at, gate_at}
use Rattle.frames.proofs.Facts.{ready_with, gates-are, gates-few}
use Rattle.frames.proofs.Places.{inputs_are, inputs-few}
use Rattle.influence.specs.Cone.{marked, marks}
use Rattle.influence.proofs.Rooms.{cone-marks}
use Rattle.diagram_rows.specs.Rows.{Plan}
use Rattle.row_plans.specs.Plans.{Planned}
use Rattle.row_plans.proofs.Steps.{kept-few, listing-few, planned-same, order_same, plan-made}
use Rattle.row_plans.proofs.make_plan.Statement.{statement}
use Rattle.row_plans.proofs.make_plan.Tie as tie

mark-cone-requires : tie.Need-mark_cone-requires
mark-cone-requires c κs = (ready_with c.requires.0 (omega (arith, c.requires.0.room)), c.requires.1.0)

add-inputs : tie.Need-overflow_add-inputs
add-inputs c = omega (arith, c.requires.1.1)

list-inputs-requires : tie.Need-list_inputs-gates-requires
list-inputs-requires c κs = ((c.args.order.now, c.requires.0), omega (arith, c.requires.1.1))

list-gates-requires : tie.Need-list_gates-end-requires
list-gates-requires c κs =
    let a = c.args in
    let ms = c.mark_cone.new.marks in
    let few = kept-few (λ i. marked ms (input_at (circuit_in a.m.now) i)) (length (circuit_in a.m.now).inputs) in (
      (a.order.now, c.requires.0),
      omega (arith, c.list_inputs-gates.ensures.end, few, inputs-few c.requires.0.held c.requires.0.layout_of, inputs_are c.requires.0.held c.requires.0.layout_of, c.requires.1.1),
    )

put-list-requires : tie.Need-put_list-requires
put-list-requires c κs = (omega (arith, c.requires.1.1), omega arith)

arrange-requires : tie.Need-arrange-requires
arrange-requires c κs = ((c.args.order.now, c.requires.0), c.put_list.ensures)

put-list-requires-2 : tie.Need-put_list-requires-2
put-list-requires-2 c κs = (omega (arith, c.requires.1.1), omega arith)

cast-put : tie.Need-overflow_cast-count
cast-put c = omega (arith, c.requires.1.1)

sub-put : tie.Need-overflow_sub-gates
sub-put c = omega (arith, c.list_inputs-gates.ensures.end)

cast-put-2 : tie.Need-overflow_cast-gates
cast-put-2 c =
    let a = c.args in
    let ms = c.mark_cone.new.marks in
    let few = kept-few (λ i. marked ms (input_at (circuit_in a.m.now) i)) (length (circuit_in a.m.now).inputs) in
    omega (arith, c.list_inputs-gates.ensures.end, few, inputs-few c.requires.0.held c.requires.0.layout_of, inputs_are c.requires.0.held c.requires.0.layout_of)

sub-put-2 : tie.Need-overflow_sub-end
sub-put-2 c = omega (arith, c.list_gates-end.ensures.end)

cast-put-3 : tie.Need-overflow_cast-end
cast-put-3 c =
    let a = c.args in
    let ms = c.mark_cone.new.marks in
    let o = a.order.now in
    let few = listing-few (λ k. marked ms (gate_at (circuit_in a.m.now) (get_or o k 0)).lit) (λ k. get_or o k 0) (length (circuit_in a.m.now).gates) in
    omega (arith, c.list_gates-end.ensures.end, few, gates-few c.requires.0, gates-are c.requires.0)

sub-result : tie.Need-overflow_sub-result
sub-result c = omega (arith, c.list_inputs-gates.ensures.end)

same_length : tie.Need-shape_of-plan
same_length c =
    c.put-3.auto.work ∙ c.put-2.auto.work ∙ c.put.auto.work ∙ c.put_list-2.auto.plan
    ∙ c.list_gates-end.auto.plan ∙ c.list_inputs-gates.auto.plan

returns : tie.Need-returns
returns c =
    let a = c.args in
    let k = circuit_in a.m.now in
    let o = a.order.now in
    let ms = c.mark_cone.new.marks in
    let e = cone-marks c.requires.0 a.b c.requires.1.0 ms c.mark_cone.ensures in
    let made =
    plan-made k ms o a.which a.latches.now c.arrange.new.list a.plan.now c.list_inputs-gates.new.plan c.list_gates-end.new.plan
    c.put_list-2.new.plan c.put.new.work c.put-2.new.work c.put-3.new.work (length a.latches.now)
    c.list_inputs-gates.result c.list_gates-end.result refl c.list_inputs-gates.ensures c.list_gates-end.ensures c.arrange.ensures c.put_list-2.ensures c.put.ensures c.put-2.ensures c.put-3.ensures in
    subst (λ (p : Plan). Planned p a.plan.now c.put-3.new.work (leb (c.list_inputs-gates.result - (3 + length a.latches.now)) 4))
    (planned-same k ms (marks k a.b) o (depth_first k) a.which a.latches.now e
    (order_same o (depth_first k) (length k.gates) c.requires.0.ordered.chosen))
    made

pub make_plan_spec : {M : Type 1} → statement M
make_plan_spec =
    tie.close
    (tie.spec (λ c. search rules) mark-cone-requires add-inputs (λ c. search rules) list-inputs-requires (λ c. search rules) list-gates-requires (λ c. search rules) put-list-requires (λ c. search rules) (λ c. search rules) arrange-requires (λ c. search rules) put-list-requires-2 cast-put (λ c κs. search rules) sub-put cast-put-2 (λ c κs. search rules) sub-put-2 cast-put-3 (λ c κs. search rules) sub-result same_length returns)
