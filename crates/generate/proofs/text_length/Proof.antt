-- `generate::text_length` meets its contract: the lengths of the parts. Assumes nothing.
use mathlib.Core.Path.{◌≡◌, refl, sym, ap, ◌∙◌}
use Prim.Native.Nat.{ℕ, ◌+◌, ◌*◌, ◌≤◌, ◌<◌}
use native.Mathlib.Omega.{arith}
use borrow.Author.Rules.{rules}
use lib.ListN.{length}
use Rattle.numbers.proofs.Digits.{digits-most}
use Rattle.generated.proofs.Short.{text-short}
use Rattle.generate.proofs.Lines.{head-most, inputs-most}
use Rattle.generate.proofs.Whole.{whole_length}
use Rattle.generate.proofs.text_length.Statement.{statement}
use Rattle.generate.proofs.text_length.Tie as tie

add-all : tie.Need-overflow_add-all
add-all c = omega (arith, c.requires)

add-all-2 : tie.Need-overflow_add-all-2
add-all-2 c = omega (arith, c.requires)

head-length-requires : tie.Need-head_length-requires
head-length-requires c κs = refl

inputs-length-requires : tie.Need-inputs_length-requires
inputs-length-requires c κs = omega (arith, c.requires)

add-head : tie.Need-overflow_add-head
add-head c =
    let n = c.args.n in
    omega (arith, c.head_length.ensures, c.inputs_length.ensures, head-most n.inputs n.latches n.gates, inputs-most 1 n.inputs, c.requires)

add-latches-length : tie.Need-overflow_add-inputs
add-latches-length c = omega (arith, c.requires)

mul-latches-length : tie.Need-overflow_mul-all
mul-latches-length c = omega (arith, c.requires)

add-latches-length-2 : tie.Need-overflow_add-all-3
add-latches-length-2 c = omega (arith, c.requires)

latches-length-requires : tie.Need-latches_length-past-requires
latches-length-requires c κs = record { variables = omega (arith, c.requires); some = omega arith }

mul-digit-count : tie.Need-overflow_mul-all-2
mul-digit-count c = omega (arith, c.requires)

add-bad : tie.Need-overflow_add-bad
add-bad c = omega (arith, c.digit_count-bad.ensures, digits-most 9 (2 * (c.args.n.inputs + c.args.n.latches + c.args.n.gates)))

add-result : tie.Need-overflow_add-result
add-result c =
    let n = c.args.n in
    omega (arith, c.head_length.ensures, c.inputs_length.ensures, c.digit_count-bad.ensures, whole_length c.args.seed n.inputs n.latches n.gates c.seeded.result c.latches_length-past.result c.seeded.ensures c.latches_length-past.ensures, text-short c.args.seed n.inputs n.latches n.gates c.requires)

add-result-2 : tie.Need-overflow_add-result-2
add-result-2 c =
    let n = c.args.n in
    omega (arith, c.head_length.ensures, c.inputs_length.ensures, c.digit_count-bad.ensures, whole_length c.args.seed n.inputs n.latches n.gates c.seeded.result c.latches_length-past.result c.seeded.ensures c.latches_length-past.ensures, text-short c.args.seed n.inputs n.latches n.gates c.requires)

add-gates-length : tie.Need-overflow_add-inputs-2
add-gates-length c = omega (arith, c.requires)

add-gates-length-2 : tie.Need-overflow_add-inputs-3
add-gates-length-2 c = omega (arith, c.requires)

gates-length-requires : tie.Need-gates_length-requires
gates-length-requires c κs = (omega arith, omega (arith, c.requires))

add-result-3 : tie.Need-overflow_add-result-3
add-result-3 c =
    let n = c.args.n in
    omega (arith, c.gates_length.ensures, c.head_length.ensures, c.inputs_length.ensures, c.digit_count-bad.ensures, whole_length c.args.seed n.inputs n.latches n.gates c.seeded.result c.latches_length-past.result c.seeded.ensures c.latches_length-past.ensures, text-short c.args.seed n.inputs n.latches n.gates c.requires)

returns : tie.Need-returns
returns c =
    let n = c.args.n in
    omega (arith, c.gates_length.ensures, c.head_length.ensures, c.inputs_length.ensures, c.digit_count-bad.ensures, whole_length c.args.seed n.inputs n.latches n.gates c.seeded.result c.latches_length-past.result c.seeded.ensures c.latches_length-past.ensures)

pub text_length_spec : {M : Type 1} → statement M
text_length_spec =
    tie.close
    (tie.spec add-all add-all-2 head-length-requires inputs-length-requires add-head (λ c κs. search rules) add-latches-length mul-latches-length add-latches-length-2 latches-length-requires mul-digit-count (λ c κs. search rules) add-bad add-result add-result-2 add-gates-length add-gates-length-2 gates-length-requires add-result-3 returns)
