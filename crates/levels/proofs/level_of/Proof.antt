-- `levels::level_of` meets its contract. Assumes nothing.
use native.Mathlib.Omega.{arith}
use borrow.Author.Rules.{rules}
use Rattle.frames.proofs.Bits.{bit-fits}
use Rattle.levels.proofs.Levels.{zero_word, full-word, other_word}
use Rattle.levels.proofs.level_of.Statement.{statement}
use Rattle.levels.proofs.level_of.Tie as tie

add-result : tie.Need-overflow_add-result
add-result c = omega (arith, bit-fits c.args.l.1)

returns : tie.Need-returns-then-word-eq0
returns c = let a = c.args in zero_word a.word a.l.1 c.if-word-eq0.true

sub-result : tie.Need-overflow_sub-result
sub-result c = omega (arith, bit-fits c.args.l.1)

returns-2 : tie.Need-returns-then-word-eq18446744073709551615
returns-2 c = let a = c.args in full-word a.word a.l.1 c.if-word-eq18446744073709551615.true

returns-3 : tie.Need-returns
returns-3 c =
    other_word c.args.word c.args.l.1 c.ranges.word.fits c.if-word-eq0.false c.if-word-eq18446744073709551615.false

pub level_of_spec : {M : Type 1} → statement M
level_of_spec =
    tie.close
    (tie.spec (λ c. search rules) add-result returns sub-result returns-2 returns-3)
