-- `search_from_command::search_loaded` meets its contract. Assumes nothing.
use Rattle.search.specs.Chosen.{said}
use Rattle.search_from_command.proofs.Searching.{left}
use borrow.Author.Rules.{rules}
use Rattle.search_from_command.proofs.search_loaded.Statement.{statement}
use Rattle.search_from_command.proofs.search_loaded.Tie as tie

returns : tie.Need-returns
returns c =
    let a = c.args in
    left a.q.b a.q.t a.q.place a.q.d (said c.search_from-answer.result) c.requires.0 c.search_from-answer.ensures a.line.now c.write_answer-length.result c.shown_length-witness.result c.write_answer-length.ensures c.shown_length-witness.ensures

pub search_loaded_spec : {M : Type 1} → statement M
search_loaded_spec =
    tie.close
    (tie.spec (λ c κs. search rules) (λ c κs. search rules) (λ c κs. search rules) (λ c. search rules) (λ c. search rules) (λ c. search rules) returns)
