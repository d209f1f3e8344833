-- `blocks::all_bits` meets its contract. Assumes nothing.
use mathlib.Core.Path.{sym, ◌∙◌}
use Rattle.words.proofs.Bits.{bit-all, bit-none}
use Rattle.blocks.proofs.all_bits.Statement.{statement}
use Rattle.blocks.proofs.all_bits.Tie as tie

returns : tie.Need-returns-then-b
returns c = λ p h. bit-all 64 p h ∙ sym c.if-b.true

returns-2 : tie.Need-returns-else-b
returns-2 c = λ p h. bit-none p ∙ sym c.if-b.false

pub all_bits_spec : {M : Type 1} → statement M
all_bits_spec = tie.close (tie.spec returns returns-2)
