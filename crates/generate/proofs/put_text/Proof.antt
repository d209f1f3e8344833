-- `generate::put_text` meets its contract: one part after the other. Assumes nothing.
use mathlib.Core.Path.{◌≡◌, refl, ap, ◌∙◌}
use Prim.Native.Nat.{ℕ, ◌+◌, ◌*◌, ◌≤◌, ◌<◌}
use native.Mathlib.Omega.{arith}
use borrow.Author.Rules.{rules}
use lib.ListN.{length}
use Rattle.aiger.specs.Operations.{front}
use Rattle.generate.proofs.Whole.{room-head, room-inputs, room-latches, room-bad, room-gates, whole-put}
use Rattle.generate.proofs.put_text.Statement.{statement}
use Rattle.generate.proofs.put_text.Tie as tie

add-all : tie.Need-overflow_add-all
add-all c = omega (arith, c.requires.0)

add-all-2 : tie.Need-overflow_add-all-2
add-all-2 c = omega (arith, c.requires.0)

put-head-requires : tie.Need-put_head-head-requires
put-head-requires c κs =
    let n = c.args.n in
    (refl, room-head c.args.seed n.inputs n.latches n.gates c.args.out.now c.requires.1)

put-inputs-requires : tie.Need-put_inputs-lines-requires
put-inputs-requires c κs =
    let n = c.args.n in
    (omega (arith, c.requires.0), room-inputs c.args.seed n.inputs n.latches n.gates c.args.out.now c.requires.1 c.put_head-head.ensures)

add-put-latches : tie.Need-overflow_add-inputs
add-put-latches c = omega (arith, c.requires.0)

mul-put-latches : tie.Need-overflow_mul-all
mul-put-latches c = omega (arith, c.requires.0)

add-put-latches-2 : tie.Need-overflow_add-all-3
add-put-latches-2 c = omega (arith, c.requires.0)

put-latches-requires : tie.Need-put_latches-past-requires
put-latches-requires c κs =
    let n = c.args.n in (
      record { variables = omega (arith, c.requires.0); some = omega arith },
      room-latches c.args.seed n.inputs n.latches n.gates c.args.out.now c.requires.1 c.put_head-head.ensures c.put_inputs-lines.ensures c.seeded-seeded.ensures,
    )

mul-put-ended : tie.Need-overflow_mul-all-2
mul-put-ended c = omega (arith, c.requires.0)

put-ended-requires : tie.Need-put_ended-bad-requires
put-ended-requires c κs =
    let n = c.args.n in
    room-bad c.args.seed n.inputs n.latches n.gates c.args.out.now c.requires.1 c.put_head-head.ensures c.put_inputs-lines.ensures c.seeded-seeded.ensures c.put_latches-past.ensures

add-put-gates : tie.Need-overflow_add-inputs-2
add-put-gates c = omega (arith, c.requires.0)

add-put-gates-2 : tie.Need-overflow_add-inputs-3
add-put-gates-2 c = omega (arith, c.requires.0)

put-gates-requires : tie.Need-put_gates-requires
put-gates-requires c κs =
    let n = c.args.n in (
      omega arith,
      omega (arith, c.requires.0),
      room-gates c.args.seed n.inputs n.latches n.gates c.args.out.now c.requires.1 c.put_head-head.ensures c.put_inputs-lines.ensures c.seeded-seeded.ensures c.put_latches-past.ensures c.put_ended-bad.ensures,
    )

returns : tie.Need-returns
returns c =
    let n = c.args.n in
    whole-put c.args.seed n.inputs n.latches n.gates c.args.out.now c.requires.1 c.put_head-head.ensures c.put_inputs-lines.ensures c.seeded-seeded.ensures c.put_latches-past.ensures c.put_ended-bad.ensures c.put_gates.ensures

pub put_text_spec : {M : Type 1} → statement M
put_text_spec =
    tie.close
    (tie.spec add-all add-all-2 put-head-requires put-inputs-requires (λ c κs. search rules) add-put-latches mul-put-latches add-put-latches-2 put-latches-requires mul-put-ended put-ended-requires add-put-gates add-put-gates-2 put-gates-requires (λ c. search rules) returns)
