-- `commands::fold_loaded` meets its contract. Assumes nothing.
use mathlib.Core.Path.{ap}
use Rattle.fold.specs.Answer.{answered}
use Rattle.commands.proofs.Answers.{fold-refusal-left, fold-shown}
use borrow.Author.Rules.{rules}
use Rattle.commands.proofs.fold_loaded.Statement.{statement}
use Rattle.commands.proofs.fold_loaded.Tie as tie

returns : tie.Need-returns-in-Length
returns c =
    fold-shown c.requires.0 c.fold.ensures c.args.line.now (ap answered c.in-Length.is)

returns-2 : tie.Need-returns-in-Refused
returns-2 c =
    let f = c.refuse.ensures in
    let e = ap answered c.in-Refused.is in
    fold-refusal-left c.requires.0 c.fold.ensures e f.0 f.1

pub fold_loaded_spec : {M : Type 1} → statement M
fold_loaded_spec =
    tie.close
    (tie.spec (λ c κs. search rules) (λ c. search rules) (λ c. search rules) (λ c κs. search rules) (λ c. search rules) (λ c. search rules) returns (λ c. search rules) (λ c. search rules) (λ c. search rules) returns-2)
