-- `compare_command::compare` meets its contract. Assumes nothing.
use lib.ListN.{length}
use Rattle.layout.specs.Words.{circuit_in}
use Rattle.job.proofs.Replying.{judged}
use Rattle.compare_command.proofs.Comparing.{left}
use borrow.Author.Rules.{rules}
use Rattle.compare_command.proofs.compare.Statement.{statement}
use Rattle.compare_command.proofs.compare.Tie as tie

returns : tie.Need-returns
returns c =
    let a = c.args in
    left (circuit_in a.m.now) a.j a.q.k a.q.d (length a.work.now) a.out.now a.line.now c.write_said-length.result
    c.shown_length-witness.result c.is_refused-refused.result (judged c.requires.0 c.search-answer.ensures) c.write_said-length.ensures c.shown_length-witness.ensures
    c.is_refused-refused.ensures

pub compare_spec : {M : Type 1} → statement M
compare_spec =
    tie.close
    (tie.spec (λ c κs. search rules) (λ c κs. search rules) (λ c κs. search rules) (λ c κs. search rules) (λ c. search rules) (λ c. search rules) (λ c. search rules) returns)
