-- `blocks::agree_one` meets its contract. Assumes nothing.
use mathlib.Core.Path.{sym, ◌∙◌}
use native.Mathlib.Omega.{arith}
use borrow.Author.Tests.{eqb-true, eqb-false, leb-true, leb-false}
use Rattle.aiger.specs.Bits.{bit}
use Rattle.words.proofs.Bits.{bit-all, bit-none, bit_not}
use Rattle.literals.specs.Literal.{word_of}
use Rattle.blocks.proofs.Words.{agrees-free, agrees-one, agrees-zero, agrees-none}
use borrow.Author.Rules.{rules}
use Rattle.blocks.proofs.agree_one.Statement.{statement}
use Rattle.blocks.proofs.agree_one.Tie as tie

equals-requires : tie.Need-equals-requires
equals-requires c κs = tt

returns : tie.Need-returns-then-equals
returns c = λ p h.
    let a = c.args in
    let l = word_of a.lit in
    let r = word_of a.reset in
    bit-all 64 p h ∙ sym (agrees-free l r (bit a.word p) (eqb-true r l (sym c.equals.ensures ∙ c.if-equals.true)))

is-true-requires : tie.Need-is_true-requires
is-true-requires c κs = tt

returns-2 : tie.Need-returns-then-is_true
returns-2 c = λ p h.
    let a = c.args in
    let l = word_of a.lit in
    let r = word_of a.reset in
    sym (agrees-one l r (eqb-false r l (sym c.equals.ensures ∙ c.if-equals.false))
    (bit a.word p)
    (eqb-true r 1 (sym c.is_true.ensures ∙ c.if-is_true.true)))

is-constant-requires : tie.Need-is_constant-requires
is-constant-requires c κs = tt

returns-3 : tie.Need-returns-then-is_constant
returns-3 c = λ p h.
    let a = c.args in
    let l = word_of a.lit in
    let r = word_of a.reset in
    let n = eqb-false r 1 (sym c.is_true.ensures ∙ c.if-is_true.false) in
    bit_not 64 a.word p c.ranges.word.fits h
    ∙ sym (agrees-zero l r (eqb-false r l (sym c.equals.ensures
    ∙ c.if-equals.false)) (bit a.word p)
    (omega (arith, n, leb-true r 1 (sym c.is_constant.ensures ∙ c.if-is_constant.true))))

returns-4 : tie.Need-returns-else-is_constant
returns-4 c = λ p h.
    let a = c.args in
    let l = word_of a.lit in
    let r = word_of a.reset in
    let big = leb-false r 1 (sym c.is_constant.ensures ∙ c.if-is_constant.false) in
    bit-none p ∙ sym (agrees-none l r (eqb-false r l (sym c.equals.ensures
    ∙ c.if-equals.false)) (bit a.word p) (λ e. omega arith) (λ e. omega arith))

pub agree_one_spec : {M : Type 1} → statement M
agree_one_spec =
    tie.close
    (tie.spec equals-requires returns is-true-requires returns-2 is-constant-requires returns-3 returns-4)
