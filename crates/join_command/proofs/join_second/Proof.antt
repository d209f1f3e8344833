-- `join_command::join_second` meets its contract. Assumes nothing.
use mathlib.Core.Path.{ap}
use Rattle.load.specs.Answers.{answered}
use Rattle.layout.specs.Words.{circuit_in}
use Rattle.load_laws.proofs.Stored.{not-loaded, stored, stored-in}
use Rattle.replies.proofs.Loading.{loaded-words}
use Rattle.join_command.proofs.Joining.{second-left, second-joined}
use borrow.Author.Rules.{rules}
use Rattle.join_command.proofs.join_second.Statement.{statement}
use Rattle.join_command.proofs.join_second.Tie as tie

join-pair-requires : tie.Need-join_pair-requires
join-pair-requires c κs =
    (c.requires.0, stored-in (stored c.load.ensures (ap answered c.in-Loaded.is)), c.requires.2, c.requires.3)

returns : tie.Need-returns-in-Refused
returns c =
    let a = c.args in
    let f = c.refuse.ensures in (
      second-left a.second.now a.new.now (circuit_in a.first.now) c.requires.1 (not-loaded c.load.ensures (ap answered c.in-Refused.is))
          a.third.now f.0 f.1,
      loaded-words c.load.ensures,
    )

returns-2 : tie.Need-returns-in-Loaded
returns-2 c =
    let a = c.args in (
      second-joined a.second.now a.new.now (circuit_in a.first.now) c.requires.1 (stored c.load.ensures (ap answered c.in-Loaded.is))
          c.join_pair.ensures,
      loaded-words c.load.ensures,
    )

pub join_second_spec : {M : Type 1} → statement M
join_second_spec =
    tie.close
    (tie.spec (λ c κs. search rules) (λ c. search rules) (λ c κs. search rules) (λ c. search rules) join-pair-requires (λ c. search rules) (λ c. search rules) returns (λ c. search rules) (λ c. search rules) (λ c. search rules) returns-2)
