-- `gate_order::first_ready` meets its contract: each turn of its loop looks in one block. Assumes nothing.
use native.Mathlib.Omega.{arith}
use borrow.Author.Rules.{rules}
use mathlib.Core.Path.{◌≡◌, refl, ◌∙◌}
use Prim.Native.Nat.{◌-◌}
use lib.ListN.{length}
use Rattle.gate_order.proofs.Blocks.{Scanning, scan, scan-on, scan-found, scan-end}
use Rattle.gate_order.proofs.first_ready.Statement.{statement}
use Rattle.gate_order.proofs.first_ready.Tie as tie

abbrev invariant-loop : tie.invariant-loop-b
invariant-loop waiting marks₀ n b₀ marks b = (n ≡ length waiting) × Scanning waiting marks₀ marks b

abbrev decreases-loop : tie.decreases-loop-b
decreases-loop waiting marks₀ n b₀ marks b = length waiting - b

loop-holds : tie.Need-loop-b-init invariant-loop decreases-loop
loop-holds c = (refl, scan _ _ c.requires.2)

mul-loop : tie.Need-overflow_mul-b invariant-loop decreases-loop
mul-loop c = omega (arith, c.loop-b.invariant.0, c.loop-b.invariant.1.few, c.requires.1)

look-in-block-requires : tie.Need-look_in_block-i-requires invariant-loop decreases-loop
look-in-block-requires c κs =
    ((omega (arith, c.loop-b.invariant.0, c.loop-b-test.true), omega (arith, c.loop-b.invariant.0, c.loop-b-test.true, c.requires.0, c.loop-b.invariant.1.long), c.loop-b.invariant.1.marked), c.requires.1)

same_length : tie.Need-shape_of-marks-then-i-n invariant-loop decreases-loop
same_length c = c.look_in_block-i.auto.marks ∙ c.loop-b.invariant.1.long

returns : tie.Need-returns-then-i-n invariant-loop decreases-loop
returns c =
    let e = c.look_in_block-i.ensures in
    (scan-found c.loop-b.invariant.1 _ (omega (arith, c.loop-b.invariant.0, c.if-i-n.true)) e, e.marked)

add-b : tie.Need-overflow_add-b invariant-loop decreases-loop
add-b c = omega (arith, c.loop-b.invariant.0, c.loop-b.invariant.1.few, c.requires.1)

loop-less : tie.Need-loop-b-smaller invariant-loop decreases-loop
loop-less c = omega (arith, c.loop-b.invariant.0, c.loop-b-test.true)

loop-again : tie.Need-loop-b-preserved invariant-loop decreases-loop
loop-again c =
    (c.loop-b.invariant.0, scan-on c.loop-b.invariant.1 (omega (arith, c.loop-b.invariant.0, c.loop-b-test.true)) _ (omega (arith, c.loop-b.invariant.0, c.if-i-n.false)) c.look_in_block-i.ensures)

same-length-2 : tie.Need-shape_of-marks invariant-loop decreases-loop
same-length-2 c = c.loop-b.invariant.1.long

returns-2 : tie.Need-returns invariant-loop decreases-loop
returns-2 c =
    let i = c.loop-b.invariant in
    (rw i.0 (scan-end i.1 (omega (arith, i.0, c.loop-b-test.false))), i.1.marked)

pub first_ready_spec : {M : Type 1} → statement M
first_ready_spec =
    tie.close
    (tie.spec invariant-loop decreases-loop loop-holds mul-loop look-in-block-requires same_length returns add-b loop-less loop-again same-length-2 returns-2)
