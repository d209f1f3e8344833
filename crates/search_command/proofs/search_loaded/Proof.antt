-- `search_command::search_loaded` meets its contract. Assumes nothing.
use lib.ListN.{length}
use Rattle.layout.specs.Words.{circuit_in}
use Rattle.job.proofs.Replying.{judged}
use Rattle.search_command.proofs.Searching.{left}
use borrow.Author.Rules.{rules}
use Rattle.search_command.proofs.search_loaded.Statement.{statement}
use Rattle.search_command.proofs.search_loaded.Tie as tie

returns : tie.Need-returns
returns c =
    let a = c.args in
    left (circuit_in a.m.now) a.q.b a.q.k a.q.d (length a.work.now) a.out.now a.line.now a.note.now c.write_answer-length.result
    c.shown_length-witness.result c.write_note-told.result (judged c.requires.0 c.search-answer.ensures) c.write_answer-length.ensures c.shown_length-witness.ensures c.write_note-told.ensures

pub search_loaded_spec : {M : Type 1} → statement M
search_loaded_spec =
    tie.close
    (tie.spec (λ c κs. search rules) (λ c κs. search rules) (λ c κs. search rules) (λ c κs. search rules) (λ c. search rules) (λ c. search rules) (λ c. search rules) (λ c. search rules) returns)
