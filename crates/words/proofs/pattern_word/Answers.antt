-- `words::pattern_word`: a draw from 6 on, and below it the bits of the pattern's number. Assumes nothing.
use Rattle.std.proofs.Common.{◌≡◌, sym, ap, ◌∙◌, ℕ, ◌-◌, ◌<◌, ◌≤◌, Bool, cond, arith}
use borrow.Author.Tests.{lt-ltb, le-ltb}
use Rattle.aiger.specs.Bits.{bit}
use Rattle.aiger.specs.Signature as Signature
use Rattle.words.proofs.pattern_word.Goals as goal

counts : (j p : ℕ) → j < 6 → Signature.pattern_bit j p ≡ bit p j
unfolding Signature.pattern_bit
counts j p h = ap (λ (t : Bool). cond t (bit p j) (bit (Signature.draw (j - 5)) p)) (lt-ltb j 6 h)

drawn : (j p : ℕ) → 6 ≤ j → Signature.pattern_bit j p ≡ bit (Signature.draw (j - 5)) p
unfolding Signature.pattern_bit
drawn j p h = ap (λ (t : Bool). cond t (bit p j) (bit (Signature.draw (j - 5)) p)) (le-ltb j 6 h)

pub returns-then-j-gt5 : goal.returns-then-j-gt5
returns-then-j-gt5 c = λ p h. ap (λ (x : ℕ). bit x p) c.draw.ensures ∙ sym (drawn c.args.j p (omega arith))

pub returns : goal.returns
returns c = λ p h. c.pattern.ensures p h ∙ ap (bit p) c.from.ensures ∙ sym (counts c.args.j p (omega arith))
