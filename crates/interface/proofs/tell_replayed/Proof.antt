-- `interface::tell_replayed` meets its contract. Assumes nothing.
use mathlib.Core.Path.{refl}
use borrow.Author.Rules.{rules}
use Rattle.interface.proofs.tell_replayed.Statement.{statement}
use Rattle.interface.proofs.tell_replayed.Tie as tie

returns : tie.Need-returns-in-Refused
returns c = record { returns = rw c.in-Refused.is; leaves = rw c.in-Refused.is }

same_length : tie.Need-shape_of-answer-in-All
same_length c = c.tell.auto.answer

returns-2 : tie.Need-returns-in-All
returns-2 c = record { returns = rw c.in-All.is; leaves = rw c.in-All.is c.tell.ensures }

same-length-2 : tie.Need-shape_of-answer-in-No
same-length-2 c = c.tell-in-No.auto.answer

returns-3 : tie.Need-returns-in-No
returns-3 c = record { returns = rw c.in-No.is; leaves = rw c.in-No.is c.tell-in-No.ensures }

same-length-3 : tie.Need-shape_of-answer-in-Mixed
same-length-3 c = c.tell-in-Mixed.auto.answer

returns-4 : tie.Need-returns-in-Mixed
returns-4 c = record { returns = rw c.in-Mixed.is; leaves = rw c.in-Mixed.is c.tell-in-Mixed.ensures }

pub tell_replayed_spec : {M : Type 1} → statement M
tell_replayed_spec =
    tie.close
    (tie.spec (λ c. search rules) (λ c. search rules) (λ c. search rules) (λ c κs. search rules) (λ c. search rules) (λ c κs. search rules) (λ c. search rules) (λ c κs. search rules) returns same_length returns-2 same-length-2 returns-3 same-length-3 returns-4)
