-- `write_binary::write_text` meets its contract: after each part the text is written but for the parts that are left. Assumes nothing.
use native.Mathlib.Omega.{arith}
use borrow.Author.Rules.{rules}
use Rattle.write_binary.proofs.Parts.{
  small,
  latches-within,
  lines-within,
  listed,
  head-room,
  latches-room,
  lines-room,
  gates-room,
  all-written,
}
use Rattle.write_binary.proofs.write_text.Statement.{statement}
use Rattle.write_binary.proofs.write_text.Tie as tie

write-head-requires : tie.Need-write_head-head-requires
write-head-requires c κs = (small c.requires.0, head-room c.requires.0 c.args.out.now c.requires.1)

write-latches-requires : tie.Need-write_latches-latches-requires
write-latches-requires c κs =
    let w = latches-within c.requires.0 in
    (w.0, w.1, latches-room c.requires.0 c.args.out.now c.requires.1 c.write_head-head.ensures)

add-write-literals : tie.Need-overflow_add-p
add-write-literals c = omega (arith, small c.requires.0)

add-write-literals-2 : tie.Need-overflow_add-p-2
add-write-literals-2 c = omega (arith, small c.requires.0)

write-literals-requires : tie.Need-write_literals-lines-requires
write-literals-requires c κs =
    let w = lines-within c.requires.0 in
    (w.0, w.1, lines-room c.requires.0 c.args.out.now c.requires.1 c.write_head-head.ensures c.write_latches-latches.ensures)

write-gates-requires : tie.Need-write_gates-requires
write-gates-requires c κs = (
  listed c.requires.0,
  gates-room c.requires.0 c.args.out.now c.requires.1 c.write_head-head.ensures c.write_latches-latches.ensures
      c.write_literals-lines.ensures,
)

returns : tie.Need-returns
returns c =
    all-written c.requires.0 c.args.out.now c.requires.1 c.write_head-head.ensures c.write_latches-latches.ensures
    c.write_literals-lines.ensures c.write_gates.ensures

pub write_text_spec : {M : Type 1} → statement M
write_text_spec =
    tie.close
    (tie.spec write-head-requires write-latches-requires add-write-literals add-write-literals-2 write-literals-requires write-gates-requires (λ c. search rules) returns)
