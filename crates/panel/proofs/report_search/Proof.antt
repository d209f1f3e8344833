-- `panel::report_search` meets its contract. Assumes nothing.
use borrow.Author.Rules.{rules}
use Rattle.panel.proofs.report_search.Statement.{statement}
use Rattle.panel.proofs.report_search.Tie as tie

returns : tie.Need-returns
returns c = (c.write_answer-length.ensures, c.shown_length-witness.ensures)

pub report_search_spec : {M : Type 1} → statement M
report_search_spec =
    tie.close
    (tie.spec (λ c κs. search rules) (λ c κs. search rules) (λ c. search rules) returns)
