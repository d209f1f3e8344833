-- `panel_lines::word_after` meets its contract. Assumes nothing.
use native.Mathlib.Omega.{arith}
use Rattle.panel_lines.proofs.Reading.{no_word, empty-word, a_word}
use borrow.Author.Rules.{rules}
use Rattle.panel_lines.proofs.word_after.Statement.{statement}
use Rattle.panel_lines.proofs.word_after.Tie as tie

returns : tie.Need-returns-then-at-request
returns c = no_word c.args.request.now c.args.at (omega arith)

returns-2 : tie.Need-returns-then-to-from
returns-2 c =
    empty-word c.args.request.now c.args.at c.word_end-to.result (omega arith) c.word_end-to.ensures
    (omega arith)

returns-3 : tie.Need-returns
returns-3 c =
    a_word c.args.request.now c.args.at c.word_end-to.result (omega arith) c.word_end-to.ensures
    (omega (arith, c.word_end-to.ensures.forward))

pub word_after_spec : {M : Type 1} → statement M
word_after_spec = tie.close (tie.spec returns (λ c. search rules) (λ c κs. search rules) returns-2 returns-3)
