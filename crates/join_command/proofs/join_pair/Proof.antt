-- `join_command::join_pair` meets its contract. Assumes nothing.
use mathlib.Core.Path.{ap}
use Rattle.load.specs.Answers.{answered}
use Rattle.join_command.proofs.Joining.{pair-refused, pair-joined}
use borrow.Author.Rules.{rules}
use Rattle.join_command.proofs.join_pair.Statement.{statement}
use Rattle.join_command.proofs.join_pair.Tie as tie

returns : tie.Need-returns-in-Refused
returns c =
    let f = c.refuse.ensures in
    pair-refused c.requires.0 c.requires.1 c.requires.2 c.join.ensures (ap answered c.in-Refused.is) f.0 f.1

returns-2 : tie.Need-returns-in-Loaded
returns-2 c =
    pair-joined c.requires.0 c.requires.1 c.requires.2 c.join.ensures c.args.line.now (ap answered c.in-Loaded.is)

pub join_pair_spec : {M : Type 1} → statement M
join_pair_spec =
    tie.close
    (tie.spec (λ c κs. search rules) (λ c. search rules) (λ c κs. search rules) (λ c. search rules) (λ c. search rules) (λ c. search rules) (λ c. search rules) returns (λ c. search rules) returns-2)
