-- `panel_join::join_loaded` meets its contract. Assumes nothing.
use mathlib.Core.Path.{refl}
use native.Mathlib.Omega.{arith}
use Rattle.load.specs.Answers.{answered}
use Rattle.panel.proofs.Answers.{load-words}
use borrow.Author.Rules.{rules}
use Rattle.panel_join.proofs.join_loaded.Statement.{statement}
use Rattle.panel_join.proofs.join_loaded.Tie as tie

returns : tie.Need-returns
returns c =
    record {
      answer = answered c.join-answer.result;
      permitted = c.join-answer.ensures;
      line-is = rw (← load-words c.join-answer.result) c.write_answer-length.ensures;
      out-is = refl;
      inside = omega arith;
    }

pub join_loaded_spec : {M : Type 1} → statement M
join_loaded_spec =
    tie.close
    (tie.spec (λ c κs. search rules) (λ c κs. search rules) (λ c. search rules) (λ c. search rules) (λ c. search rules) returns)
