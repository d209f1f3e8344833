-- `panel::load` meets its contract. Assumes nothing.
use mathlib.Core.Path.{refl}
use native.Mathlib.Omega.{arith}
use Rattle.load.specs.Answers.{answered}
use Rattle.panel.proofs.Answers.{load-words}
use borrow.Author.Rules.{rules}
use Rattle.panel.proofs.load.Statement.{statement}
use Rattle.panel.proofs.load.Tie as tie

returns : tie.Need-returns
returns c =
    record {
      answer = answered c.load-answer.result;
      permitted = c.load-answer.ensures;
      line-is = rw (← load-words c.load-answer.result) c.write_answer-length.ensures;
      out-is = refl;
      inside = omega arith;
    }

pub load_spec : {M : Type 1} → statement M
load_spec =
    tie.close
    (tie.spec (λ c κs. search rules) (λ c κs. search rules) (λ c. search rules) (λ c. search rules) (λ c. search rules) returns)
