-- `panel_files::replay` meets its contract. Assumes nothing.
use mathlib.Core.Path.{refl}
use native.Mathlib.Omega.{arith}
use Rattle.replay.specs.Answer.{answered}
use borrow.Author.Rules.{rules}
use Rattle.panel_files.proofs.replay.Statement.{statement}
use Rattle.panel_files.proofs.replay.Tie as tie

returns : tie.Need-returns
returns c =
    record {
      answer = answered c.replay-answer.result;
      permitted = c.replay-answer.ensures;
      line-is = c.write_verdict-length.ensures;
      out-is = refl;
      inside = omega arith;
    }

pub replay_spec : {M : Type 1} → statement M
replay_spec = tie.close (tie.spec (λ c κs. search rules) (λ c κs. search rules) (λ c. search rules) returns)
