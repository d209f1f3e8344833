-- `enumeration::start_word` meets its contract. Assumes nothing.
use mathlib.Core.Path.{sym, ◌∙◌}
use Rattle.words.proofs.Bits.{bit-all, bit-none}
use borrow.Author.Rules.{rules}
use Rattle.enumeration.proofs.start_word.Statement.{statement}
use Rattle.enumeration.proofs.start_word.Tie as tie

equals-requires : tie.Need-equals-requires
equals-requires c κs = tt

returns : tie.Need-returns-then-equals
returns c = λ p h. rw (sym c.equals.ensures ∙ c.if-equals.true) (c.counting_word.ensures p h)

is-true-requires : tie.Need-is_true-requires
is-true-requires c κs = tt

returns-2 : tie.Need-returns-then-is_true
returns-2 c =
    λ p h. rw (sym c.equals.ensures ∙ c.if-equals.false, sym c.is_true.ensures ∙ c.if-is_true.true) (bit-all 64 p h)

returns-3 : tie.Need-returns-else-is_true
returns-3 c =
    λ p h. rw (sym c.equals.ensures ∙ c.if-equals.false, sym c.is_true.ensures ∙ c.if-is_true.false) (bit-none p)

pub start_word_spec : {M : Type 1} → statement M
start_word_spec =
    tie.close
    (tie.spec equals-requires (λ c κs. search rules) returns is-true-requires returns-2 returns-3)
