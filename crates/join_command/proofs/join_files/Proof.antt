-- `join_command::join_files` meets its contract. Assumes nothing.
use mathlib.Core.Path.{ap}
use Rattle.load.specs.Answers.{answered}
use Rattle.load_laws.proofs.Stored.{not-loaded, stored, stored-in}
use Rattle.replies.proofs.Loading.{loaded-words}
use Rattle.join_command.proofs.Joining.{first-left, first-joined, both_left, both-loaded}
use borrow.Author.Rules.{rules}
use Rattle.join_command.proofs.join_files.Statement.{statement}
use Rattle.join_command.proofs.join_files.Tie as tie

join-second-requires : tie.Need-join_second-requires
join-second-requires c κs =
    (stored-in (stored c.load.ensures (ap answered c.in-Loaded.is)), c.requires.1, c.requires.2, c.requires.3)

returns : tie.Need-returns-in-Refused
returns c =
    let a = c.args in
    let f = c.refuse.ensures in
    let e = not-loaded c.load.ensures (ap answered c.in-Refused.is) in (
      first-left a.first.now a.old.now a.new.now c.requires.0 e a.third.now f.0 f.1,
      both_left a.first.now a.old.now a.new.now c.requires.0 e a.second.now (loaded-words c.load.ensures),
    )

returns-2 : tie.Need-returns-in-Loaded
returns-2 c =
    let a = c.args in
    let j = c.join_second.ensures in
    let e = stored c.load.ensures (ap answered c.in-Loaded.is) in (
      first-joined a.first.now a.old.now a.new.now c.requires.0 e j.0,
      both-loaded a.first.now a.old.now a.new.now c.requires.0 e (loaded-words c.load.ensures) j.1,
    )

pub join_files_spec : {M : Type 1} → statement M
join_files_spec =
    tie.close
    (tie.spec (λ c κs. search rules) (λ c. search rules) (λ c κs. search rules) (λ c. search rules) join-second-requires (λ c. search rules) (λ c. search rules) returns (λ c. search rules) (λ c. search rules) (λ c. search rules) (λ c. search rules) returns-2)
