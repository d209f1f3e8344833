-- `words::counting_word` meets its contract: below 6 the bit is one of p, from 6 on one of the block's number. Assumes nothing.
use Prim.Native.Nat.{◌-◌}
use mathlib.Core.Path.{◌∙◌, sym}
use native.Mathlib.Omega.{arith}
use borrow.Author.Rules.{rules}
use Rattle.words.proofs.Bits.{bit-beyond, bit-none, bit-all, bit-tested, bit-tested-not, join-low, join-high}
use Rattle.words.proofs.counting_word.Statement.{statement}
use Rattle.words.proofs.counting_word.Tie as tie

returns : tie.Need-returns-then-k-lt6
returns c =
    λ p h. let a = c.args in
    c.pattern.ensures p h ∙ sym (join-low 6 a.block p a.k c.if-k-lt6.true)

returns-2 : tie.Need-returns-then-s-ge64
returns-2 c =
    λ p h. let a = c.args in
    bit-none p
    ∙ sym (join-high 6 a.block p a.k h (omega arith) ∙ bit-beyond 64 a.block (a.k - 6) c.ranges.block.fits c.if-s-ge64.true)

returns-3 : tie.Need-returns-then-block-s-eq1
returns-3 c =
    λ p h. let a = c.args in
    bit-all 64 p h ∙ sym (join-high 6 a.block p a.k h (omega arith) ∙ bit-tested a.block (a.k - 6) c.if-block-s-eq1.true)

returns-4 : tie.Need-returns-else-block-s-eq1
returns-4 c =
    λ p h. let a = c.args in
    bit-none p ∙ sym (join-high 6 a.block p a.k h (omega arith) ∙ bit-tested-not a.block (a.k - 6) c.if-block-s-eq1.false)

pub counting_word_spec : {M : Type 1} → statement M
counting_word_spec = tie.close (tie.spec (λ c κs. search rules) returns returns-2 (λ c. search rules) returns-3 returns-4)
