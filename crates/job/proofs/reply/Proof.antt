-- `job::reply` meets its contract. Assumes nothing.
use Rattle.search.specs.Chosen.{said}
use Rattle.job.proofs.Replying.{search-replied}
use borrow.Author.Rules.{rules}
use Rattle.job.proofs.reply.Statement.{statement}
use Rattle.job.proofs.reply.Tie as tie

returns : tie.Need-returns
returns c =
    search-replied (said c.search-answer.result) c.requires.0 c.search-answer.ensures c.write_answer-length.ensures c.shown_length-witness.ensures

pub reply_spec : {M : Type 1} → statement M
reply_spec =
    tie.close
    (tie.spec (λ c κs. search rules) (λ c κs. search rules) (λ c κs. search rules) (λ c. search rules) (λ c. search rules) (λ c. search rules) returns)
