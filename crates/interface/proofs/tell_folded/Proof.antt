-- `interface::tell_folded` meets its contract. Assumes nothing.
use mathlib.Core.Path.{refl}
use borrow.Author.Rules.{rules}
use Rattle.interface.proofs.tell_folded.Statement.{statement}
use Rattle.interface.proofs.tell_folded.Tie as tie

returns : tie.Need-returns-in-Refused
returns c = record { returns = rw c.in-Refused.is; leaves = rw c.in-Refused.is }

same_length : tie.Need-shape_of-answer
same_length c = c.tell.auto.answer

returns-2 : tie.Need-returns-in-Length
returns-2 c = record { returns = rw c.in-Length.is; leaves = rw c.in-Length.is c.tell.ensures }

pub tell_folded_spec : {M : Type 1} → statement M
tell_folded_spec =
    tie.close
    (tie.spec (λ c. search rules) (λ c. search rules) (λ c. search rules) (λ c κs. search rules) returns same_length returns-2)
