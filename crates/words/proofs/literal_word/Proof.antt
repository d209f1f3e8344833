-- `words::literal_word` meets its contract. Assumes nothing.
use mathlib.Core.Bool.{Bool, xor}
use mathlib.Core.Path.{◌∙◌, sym, ap}
use Rattle.aiger.specs.Bits.{bit}
use Rattle.words.proofs.Bits.{bit_not, xor-false, xor-true}
use Rattle.words.proofs.literal_word.Statement.{statement}
use Rattle.words.proofs.literal_word.Tie as tie

returns : tie.Need-returns-then-complemented
returns c =
    λ p h. let a = c.args.a in
    bit_not 64 a p c.ranges.a.fits h ∙ sym (ap (λ (n : Bool). xor n (bit a p)) c.if-complemented.true ∙ xor-true (bit a p))

returns-2 : tie.Need-returns-else-complemented
returns-2 c =
    λ p h. let b = bit c.args.a p in
    sym (ap (λ (n : Bool). xor n b) c.if-complemented.false ∙ xor-false b)

pub literal_word_spec : {M : Type 1} → statement M
literal_word_spec = tie.close (tie.spec returns returns-2)
