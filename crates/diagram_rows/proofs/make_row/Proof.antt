-- `diagram_rows::make_row` meets its contract. Assumes nothing.
use mathlib.Core.Path.{refl, ◌∙◌}
use mathlib.Core.Bool.{true, false}
use Prim.Native.Nat.{◌+◌, ◌-◌}
use native.Mathlib.Omega.{arith}
use borrow.Author.Rules.{rules}
use borrow.Author.Tests.{not-true, not-false}
use lib.ListN.{take, drop}
use Rattle.layout.specs.Words.{word, circuit_in}
use Rattle.diagrams.specs.States.{state_of}
use Rattle.diagram_rows.proofs.Follow.{leaves-as, part_length, part-short, latches-part, inputs-part, gates-part, row-short, row_first, row-second, row-third}
use Rattle.diagram_rows.proofs.make_row.Statement.{statement}
use Rattle.diagram_rows.proofs.make_row.Tie as tie

add-inputs : tie.Need-overflow_add-inputs
add-inputs c = omega (arith, c.count_at-inputs.ensures.1)

add-gates : tie.Need-overflow_add-gates
add-gates c = omega (arith, c.count_at-inputs.ensures.1, c.count_at.ensures.1)

add-end : tie.Need-overflow_add-end
add-end c = omega (arith, c.count_at-inputs.ensures.1, c.count_at.ensures.1, c.count_at-2.ensures.1)

returns : tie.Need-returns-then-plan-end
returns c =
    let a = c.args in
    let i = c.count_at-inputs.ensures.0 in
    let g = c.count_at.ensures.0 in
    let n = c.count_at-2.ensures.0 in
    record {
      left = row-short (circuit_in a.m.now) a.b a.plan.now a.r (state_of a.w.now) (omega (arith, i, g, n, c.if-plan-end.true));
      stays = λ _. refl;
    }

sub-put-bits : tie.Need-slice_bounds-put_bits-count
sub-put-bits c = omega arith

part-put-bits-start : tie.Need-slice_bounds-put_bits-start
part-put-bits-start c = omega arith

part-put-bits-end : tie.Need-slice_bounds-put_bits-end
part-put-bits-end c = omega (arith, c.if-plan-end.false)

put-bits-requires : tie.Need-put_bits-requires
put-bits-requires c κs = c.requires.0

sub-put-latches : tie.Need-slice_bounds-put_latches-count
sub-put-latches c = omega arith

part-put-latches-start : tie.Need-slice_bounds-put_latches-start
part-put-latches-start c = omega arith

part-put-latches-end : tie.Need-slice_bounds-put_latches-end
part-put-latches-end c = omega (arith, c.if-plan-end.false)

put-latches-requires : tie.Need-put_latches-requires
put-latches-requires c κs =
    let p = c.args.plan.now in
    (c.requires.0, part-short p 3 (3 + c.count_at-inputs.result - 3) (omega (arith, c.count_at-inputs.ensures.1)))

same_length : tie.Need-shape_of-w-then-not-put_latches
same_length c = c.put_latches.auto.w

returns-2 : tie.Need-returns-then-not-put_latches
returns-2 c =
    let a = c.args in
    let p = a.plan.now in
    record {
      left =
          row_first (circuit_in a.m.now) a.b p a.r (state_of a.w.now) (omega (arith, c.count_at-inputs.ensures.0, c.count_at.ensures.0, c.count_at-2.ensures.0, c.if-plan-end.false))
          (take (3 + c.count_at-inputs.result - 3) (drop 3 p)) (take (3 + c.count_at-inputs.result + c.count_at.result - (3 + c.count_at-inputs.result)) (drop (3 + c.count_at-inputs.result) p))
          (take (word p 2) (drop (3 + word p 0 + word p 1) p)) c.put_bits.new.edges
          (latches-part p c.count_at-inputs.result c.count_at.result c.count_at-2.result c.count_at-inputs.ensures.0 c.count_at.ensures.0 c.count_at-2.ensures.0)
          (inputs-part p c.count_at-inputs.result c.count_at.result c.count_at-2.result c.count_at-inputs.ensures.0 c.count_at.ensures.0 c.count_at-2.ensures.0)
          refl c.put_bits.ensures (state_of c.put_latches.new.w)
          (leaves-as c.put_latches.new.w c.put_latches.new.edges c.put_latches.result false c.if-not-put_latches.true ∙ c.put_latches.ensures);
      stays = λ _. refl;
    }

sub-put-gates : tie.Need-slice_bounds-put_gates-count
sub-put-gates c = omega arith

part-put-gates-start : tie.Need-slice_bounds-put_gates-start
part-put-gates-start c = omega arith

part-put-gates-end : tie.Need-slice_bounds-put_gates-end
part-put-gates-end c = omega (arith, c.if-plan-end.false)

put-gates-requires : tie.Need-put_gates-requires
put-gates-requires c κs = c.requires.0

same-length-2 : tie.Need-shape_of-w-then-not-put_gates
same-length-2 c = c.put_gates.auto.w ∙ c.put_latches.auto.w

returns-3 : tie.Need-returns-then-not-put_gates
returns-3 c =
    let a = c.args in
    let p = a.plan.now in
    record {
      left =
          row-second (circuit_in a.m.now) a.b p a.r (state_of a.w.now) (omega (arith, c.count_at-inputs.ensures.0, c.count_at.ensures.0, c.count_at-2.ensures.0, c.if-plan-end.false))
          (take (3 + c.count_at-inputs.result - 3) (drop 3 p)) (take (3 + c.count_at-inputs.result + c.count_at.result - (3 + c.count_at-inputs.result)) (drop (3 + c.count_at-inputs.result) p))
          (take (3 + c.count_at-inputs.result + c.count_at.result + c.count_at-2.result - (3 + c.count_at-inputs.result + c.count_at.result)) (drop (3 + c.count_at-inputs.result + c.count_at.result) p)) c.put_bits.new.edges
          (latches-part p c.count_at-inputs.result c.count_at.result c.count_at-2.result c.count_at-inputs.ensures.0 c.count_at.ensures.0 c.count_at-2.ensures.0)
          (inputs-part p c.count_at-inputs.result c.count_at.result c.count_at-2.result c.count_at-inputs.ensures.0 c.count_at.ensures.0 c.count_at-2.ensures.0)
          (gates-part p c.count_at-inputs.result c.count_at.result c.count_at-2.result c.count_at-inputs.ensures.0 c.count_at.ensures.0 c.count_at-2.ensures.0)
          c.put_bits.ensures (state_of c.put_latches.new.w) c.put_latches.new.edges
          (leaves-as c.put_latches.new.w c.put_latches.new.edges c.put_latches.result true c.if-not-put_latches.false ∙ c.put_latches.ensures)
          (state_of c.put_gates.new.w)
          (leaves-as c.put_gates.new.w c.put_gates.new.edges c.put_gates.result false c.if-not-put_gates.true ∙ c.put_gates.ensures);
      stays = λ _. refl;
    }

sub-finish-row : tie.Need-slice_bounds-finish_row-count
sub-finish-row c = omega arith

part-finish-row-start : tie.Need-slice_bounds-finish_row-start
part-finish-row-start c = omega arith

part-finish-row-end : tie.Need-slice_bounds-finish_row-end
part-finish-row-end c = omega (arith, c.if-plan-end.false)

finish-row-requires : tie.Need-finish_row-requires
finish-row-requires c κs =
    let p = c.args.plan.now in
    let e = part_length p 3 (3 + c.count_at-inputs.result - 3) (omega (arith, c.if-plan-end.false)) in
    (c.requires.0, omega (arith, e, c.requires.1, c.count_at-inputs.ensures.0))

same-length-3 : tie.Need-shape_of-w
same-length-3 c = c.finish_row.auto.w ∙ c.put_gates.auto.w ∙ c.put_latches.auto.w

same-length-4 : tie.Need-shape_of-row
same-length-4 c = c.finish_row.auto.row

returns-4 : tie.Need-returns
returns-4 c =
    let a = c.args in
    let p = a.plan.now in
    record {
      left =
          c.finish_row.ensures.left
          ∙ row-third (circuit_in a.m.now) a.b p a.r (state_of a.w.now) (omega (arith, c.count_at-inputs.ensures.0, c.count_at.ensures.0, c.count_at-2.ensures.0, c.if-plan-end.false))
          (take (3 + c.count_at-inputs.result - 3) (drop 3 p)) (take (3 + c.count_at-inputs.result + c.count_at.result - (3 + c.count_at-inputs.result)) (drop (3 + c.count_at-inputs.result) p))
          (take (3 + c.count_at-inputs.result + c.count_at.result + c.count_at-2.result - (3 + c.count_at-inputs.result + c.count_at.result)) (drop (3 + c.count_at-inputs.result + c.count_at.result) p)) c.put_bits.new.edges
          (latches-part p c.count_at-inputs.result c.count_at.result c.count_at-2.result c.count_at-inputs.ensures.0 c.count_at.ensures.0 c.count_at-2.ensures.0)
          (inputs-part p c.count_at-inputs.result c.count_at.result c.count_at-2.result c.count_at-inputs.ensures.0 c.count_at.ensures.0 c.count_at-2.ensures.0)
          (gates-part p c.count_at-inputs.result c.count_at.result c.count_at-2.result c.count_at-inputs.ensures.0 c.count_at.ensures.0 c.count_at-2.ensures.0)
          c.put_bits.ensures (state_of c.put_latches.new.w) c.put_latches.new.edges
          (leaves-as c.put_latches.new.w c.put_latches.new.edges c.put_latches.result true c.if-not-put_latches.false ∙ c.put_latches.ensures)
          (state_of c.put_gates.new.w) c.put_gates.new.edges
          (leaves-as c.put_gates.new.w c.put_gates.new.edges c.put_gates.result true c.if-not-put_gates.false ∙ c.put_gates.ensures);
      stays = c.finish_row.ensures.stays;
    }

pub make_row_spec : {M : Type 1} → statement M
make_row_spec =
    tie.close
    (tie.spec (λ c κs. search rules) add-inputs (λ c κs. search rules) add-gates (λ c κs. search rules) add-end returns (λ c. search rules) (λ c. search rules) sub-put-bits part-put-bits-start part-put-bits-end (λ c. search rules) put-bits-requires sub-put-latches part-put-latches-start part-put-latches-end (λ c. search rules) put-latches-requires same_length returns-2 (λ c. search rules) sub-put-gates part-put-gates-start part-put-gates-end (λ c. search rules) put-gates-requires same-length-2 returns-3 sub-finish-row part-finish-row-start part-finish-row-end (λ c. search rules) finish-row-requires same-length-3 same-length-4 returns-4)
