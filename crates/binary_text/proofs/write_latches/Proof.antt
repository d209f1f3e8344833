-- `binary_text::write_latches` meets its contract. The loop's invariant: the lines are written but for those that are left. The measure is
-- the number of latches left. Assumes nothing.
use Prim.Native.Nat.{◌+◌, ◌-◌, ◌*◌, ◌≤◌}
use native.Mathlib.Omega.{arith}
use borrow.Author.Rules.{rules}
use lib.ListN.{length}
use Rattle.layout.specs.Words.{word}
use Rattle.renumber.specs.Names.{Within, under}
use Rattle.output.proofs.Output.{Rest, rest-start, rest-room, rest_more, rest_end}
use Rattle.binary_text.specs.Lines.{latch_line, latch_lines}
use Rattle.binary_text.proofs.Steps.{latches-more, latches-none, within-from}
use Rattle.binary_text.proofs.write_latches.Statement.{statement}
use Rattle.binary_text.proofs.write_latches.Tie as tie

abbrev invariant-loop : tie.invariant-loop-left
invariant-loop m first n names out₀ at end₀ p₀ left₀ out end p left =
    (p + 3 * left ≤ length m) × Within m p (3 * left) names × Rest out₀ at (latch_lines names m first n) out end (latch_lines names m p left)

abbrev decreases-loop : tie.decreases-loop-left
decreases-loop m first n names out₀ at end₀ p₀ left₀ out end p left = left

loop-holds : tie.Need-loop-left-init invariant-loop decreases-loop
loop-holds c = (c.requires.0, c.requires.1, rest-start c.args.out.now c.args.at _)

add-rename-word : tie.Need-overflow_add-p invariant-loop decreases-loop
add-rename-word c = omega arith

shared-slice-read-rename-word : tie.Need-bounds-m-p invariant-loop decreases-loop
shared-slice-read-rename-word c = omega arith

rename-word-requires : tie.Need-rename_word-next-requires invariant-loop decreases-loop
rename-word-requires c κs = c.loop-left.invariant.1 1 (omega (arith, c.loop-left-test.true))

add-rename-word-2 : tie.Need-overflow_add-p-in-loop-left invariant-loop decreases-loop
add-rename-word-2 c = omega arith

shared-slice-read-rename-word-2 : tie.Need-bounds-m-p-in-loop-left invariant-loop decreases-loop
shared-slice-read-rename-word-2 c = omega arith

rename-word-requires-2 : tie.Need-rename_word-reset-requires invariant-loop decreases-loop
rename-word-requires-2 c κs = c.loop-left.invariant.1 2 (omega (arith, c.loop-left-test.true))

write-latch-requires : tie.Need-write_latch-end-requires invariant-loop decreases-loop
write-latch-requires c κs =
    let m = c.args.m.now in
    let names = c.args.names.now in
    let p = c.loop-left.p in
    let n = c.loop-left.left in
    rw (c.rename_word-next.ensures.0, c.rename_word-reset.ensures.0)
    (rest-room (latch_line (under names (word m (p + 1))) (under names (word m (p + 2)))) (latch_lines names m (p + 3) (n - 1)) c.requires.2
    (rw (latches-more names m p n c.loop-left-test.true) at c.loop-left.invariant.2))

add-p : tie.Need-overflow_add-p-in-loop-left-2 invariant-loop decreases-loop
add-p c = omega (arith, c.loop-left.invariant.0, c.loop-left-test.true)

sub-left : tie.Need-overflow_sub-left invariant-loop decreases-loop
sub-left c = omega (arith, c.loop-left-test.true)

loop-less : tie.Need-loop-left-smaller invariant-loop decreases-loop
loop-less c = omega (arith, c.loop-left-test.true)

loop-again : tie.Need-loop-left-preserved invariant-loop decreases-loop
loop-again c =
    let m = c.args.m.now in
    let names = c.args.names.now in
    let p = c.loop-left.p in
    let n = c.loop-left.left in
    let t = c.loop-left-test.true in (
      omega (arith, c.loop-left.invariant.0, t),
      within-from m p (3 * n) names 3 (3 * (n - 1)) (omega (arith, t)) c.loop-left.invariant.1,
      rest_more (latch_line (under names (word m (p + 1))) (under names (word m (p + 2)))) (latch_lines names m (p + 3) (n - 1)) c.requires.2
          (rw (latches-more names m p n t) at c.loop-left.invariant.2)
          (rw (c.rename_word-next.ensures.0, c.rename_word-reset.ensures.0) at c.write_latch-end.ensures),
    )

same_length : tie.Need-shape_of-out invariant-loop decreases-loop
same_length c = c.loop-left.invariant.2.kept

returns : tie.Need-returns invariant-loop decreases-loop
returns c =
    let a = c.args in
    rest_end (rw (latches-none a.names.now a.m.now c.loop-left.p c.loop-left.left c.loop-left-test.false) at c.loop-left.invariant.2)

pub write_latches_spec : {M : Type 1} → statement M
write_latches_spec =
    tie.close
    (tie.spec invariant-loop decreases-loop loop-holds add-rename-word (λ c. search rules) shared-slice-read-rename-word rename-word-requires add-rename-word-2 (λ c. search rules) shared-slice-read-rename-word-2 rename-word-requires-2 write-latch-requires add-p sub-left loop-less loop-again same_length returns)
