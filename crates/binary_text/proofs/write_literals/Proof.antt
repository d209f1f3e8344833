-- `binary_text::write_literals` meets its contract. The loop's invariant: the lines are written but for those that are left. The measure is
-- the number of literals left. Assumes nothing.
use mathlib.Core.Path.{◌≡◌, subst}
use Prim.Native.Nat.{ℕ, ◌+◌, ◌-◌, ◌*◌, ◌≤◌, ◌<◌}
use native.Mathlib.Omega.{arith}
use borrow.Author.Rules.{rules}
use lib.ListN.{length}
use Rattle.aiger.specs.Circuit.{var}
use Rattle.layout.specs.Words.{word}
use Rattle.renumber.specs.Names.{Within, under}
use Rattle.output.specs.Row.{number_text}
use Rattle.output.proofs.Output.{Rest, rest-start, rest-room, rest_more, rest_end}
use Rattle.binary_text.specs.Lines.{literal_lines}
use Rattle.binary_text.proofs.Steps.{literals-more, literals-none, within-from, within-here}
use Rattle.binary_text.proofs.write_literals.Statement.{statement}
use Rattle.binary_text.proofs.write_literals.Tie as tie

abbrev invariant-loop : tie.invariant-loop-left
invariant-loop m first n names out₀ at end₀ p₀ left₀ out end p left =
    (p + left ≤ length m) × Within m p left names × Rest out₀ at (literal_lines names m first n) out end (literal_lines names m p left)

abbrev decreases-loop : tie.decreases-loop-left
decreases-loop m first n names out₀ at end₀ p₀ left₀ out end p left = left

loop-holds : tie.Need-loop-left-init invariant-loop decreases-loop
loop-holds c = (c.requires.0, c.requires.1, rest-start c.args.out.now c.args.at _)

shared-slice-read-rename-word : tie.Need-bounds-m-p invariant-loop decreases-loop
shared-slice-read-rename-word c = omega arith

rename-word-requires : tie.Need-rename_word-requires invariant-loop decreases-loop
rename-word-requires c κs =
    within-here c.args.m.now c.loop-left.p c.loop-left.left c.args.names.now c.loop-left-test.true c.loop-left.invariant.1

put-ended-requires : tie.Need-put_ended-end-requires invariant-loop decreases-loop
put-ended-requires c κs =
    let m = c.args.m.now in
    let names = c.args.names.now in
    let p = c.loop-left.p in
    let n = c.loop-left.left in
    rw c.rename_word.ensures.0
    (rest-room (number_text (under names (word m p)) 0) (literal_lines names m (p + 1) (n - 1)) c.requires.2
    (rw (literals-more names m p n c.loop-left-test.true) at c.loop-left.invariant.2))

add-p : tie.Need-overflow_add-p invariant-loop decreases-loop
add-p c = omega (arith, c.loop-left.invariant.0, c.loop-left-test.true)

sub-left : tie.Need-overflow_sub-left invariant-loop decreases-loop
sub-left c = omega (arith, c.loop-left-test.true)

loop-less : tie.Need-loop-left-smaller invariant-loop decreases-loop
loop-less c = omega (arith, c.loop-left-test.true)

loop-again : tie.Need-loop-left-preserved invariant-loop decreases-loop
loop-again c =
    let m = c.args.m.now in
    let names = c.args.names.now in
    let p = c.loop-left.p in
    let n = c.loop-left.left in
    let t = c.loop-left-test.true in (
      omega (arith, c.loop-left.invariant.0, t),
      within-from m p n names 1 (n - 1) (omega (arith, t)) c.loop-left.invariant.1,
      rest_more (number_text (under names (word m p)) 0) (literal_lines names m (p + 1) (n - 1)) c.requires.2
          (rw (literals-more names m p n t) at c.loop-left.invariant.2) (rw c.rename_word.ensures.0 at c.put_ended-end.ensures),
    )

same_length : tie.Need-shape_of-out invariant-loop decreases-loop
same_length c = c.loop-left.invariant.2.kept

returns : tie.Need-returns invariant-loop decreases-loop
returns c =
    let a = c.args in
    rest_end (rw (literals-none a.names.now a.m.now c.loop-left.p c.loop-left.left c.loop-left-test.false) at c.loop-left.invariant.2)

pub write_literals_spec : {M : Type 1} → statement M
write_literals_spec =
    tie.close
    (tie.spec invariant-loop decreases-loop loop-holds (λ c. search rules) shared-slice-read-rename-word rename-word-requires put-ended-requires add-p sub-left loop-less loop-again same_length returns)
