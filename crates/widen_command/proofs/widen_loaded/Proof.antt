-- `widen_command::widen_loaded` meets its contract. Assumes nothing.
use mathlib.Core.Path.{ap}
use Rattle.widen.specs.Answer.{answered}
use Rattle.widen_command.proofs.Answers.{widen-refused, widen-shown}
use borrow.Author.Rules.{rules}
use Rattle.widen_command.proofs.widen_loaded.Statement.{statement}
use Rattle.widen_command.proofs.widen_loaded.Tie as tie

returns : tie.Need-returns-in-Length
returns c =
    widen-shown c.requires.0 c.widen.ensures c.args.line.now (ap answered c.in-Length.is)

returns-2 : tie.Need-returns-in-Refused
returns-2 c =
    let f = c.refuse.ensures in
    widen-refused c.requires.0 c.widen.ensures (ap answered c.in-Refused.is) f.0 f.1

pub widen_loaded_spec : {M : Type 1} → statement M
widen_loaded_spec =
    tie.close
    (tie.spec (λ c κs. search rules) (λ c. search rules) (λ c. search rules) (λ c κs. search rules) (λ c. search rules) returns (λ c. search rules) (λ c. search rules) returns-2)
