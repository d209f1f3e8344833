-- `interface::tell_searched` meets its contract. Assumes nothing.
use mathlib.Core.Path.{refl}
use borrow.Author.Rules.{rules}
use Rattle.interface.proofs.Flags.{flag-told}
use Rattle.interface.proofs.tell_searched.Statement.{statement}
use Rattle.interface.proofs.tell_searched.Tie as tie

returns : tie.Need-returns-in-Refused
returns c = record { returns = rw c.in-Refused.is; leaves = rw c.in-Refused.is }

same_length : tie.Need-shape_of-answer-in-Found
same_length c = c.tell.auto.answer

returns-2 : tie.Need-returns-in-Found
returns-2 c = record { returns = rw c.in-Found.is; leaves = rw c.in-Found.is c.tell.ensures }

same-length-2 : tie.Need-shape_of-answer-in-Nothing
same-length-2 c = c.tell-in-Nothing.auto.answer

returns-3 : tie.Need-returns-in-Nothing
returns-3 c =
    let e = c.in-Nothing.is in
    record { returns = rw e; leaves = rw e (flag-told c.in-Nothing.k c.in-Nothing.never c.args.answer.now c.number.ensures c.tell-in-Nothing.ensures) }

same-length-3 : tie.Need-shape_of-answer-in-Spent
same-length-3 c = c.tell_reached.auto.answer

returns-4 : tie.Need-returns-in-Spent
returns-4 c = record { returns = rw c.in-Spent.is; leaves = rw c.in-Spent.is c.tell_reached.ensures }

pub tell_searched_spec : {M : Type 1} → statement M
tell_searched_spec =
    tie.close
    (tie.spec (λ c. search rules) (λ c. search rules) (λ c. search rules) (λ c. search rules) (λ c. search rules) (λ c κs. search rules) (λ c. search rules) (λ c. search rules) (λ c κs. search rules) (λ c κs. search rules) (λ c. search rules) (λ c. search rules) (λ c κs. search rules) returns same_length returns-2 same-length-2 returns-3 same-length-3 returns-4)
