-- `blocks::bit_word` meets its contract. Assumes nothing.
use mathlib.Core.Path.{◌∙◌}
use Prim.Native.Nat.{◌+◌, ◌*◌}
use borrow.Author.Rules.{rules}
use Rattle.aiger.specs.Bits.{bit}
use Rattle.words.proofs.Bits.{bit-all, bit-none}
use Rattle.blocks.proofs.Words.{either-bit, one_bit, other-bit}
use Rattle.blocks.proofs.bit_word.Statement.{statement}
use Rattle.blocks.proofs.bit_word.Tie as tie

returns : tie.Need-returns-then-byte-eq120
returns c = λ p h.
    let a = c.args in
    c.counting_word.ensures p h ∙ either-bit a.byte (bit (a.block * 64 + p) a.k) c.if-byte-eq120.true

returns-2 : tie.Need-returns-then-byte-eq49
returns-2 c = λ p h.
    let a = c.args in
    bit-all 64 p h ∙ one_bit a.byte (bit (a.block * 64 + p) a.k) c.if-byte-eq49.true

returns-3 : tie.Need-returns-else-byte-eq49
returns-3 c = λ p h.
    let a = c.args in
    bit-none p ∙ other-bit a.byte (bit (a.block * 64 + p) a.k) c.if-byte-eq120.false c.if-byte-eq49.false

pub bit_word_spec : {M : Type 1} → statement M
bit_word_spec = tie.close (tie.spec (λ c κs. search rules) returns returns-2 returns-3)
