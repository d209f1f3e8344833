-- `interface::tell_loaded` meets its contract. Assumes nothing.
use mathlib.Core.Path.{refl}
use borrow.Author.Rules.{rules}
use Rattle.interface.proofs.tell_loaded.Statement.{statement}
use Rattle.interface.proofs.tell_loaded.Tie as tie

returns : tie.Need-returns-in-Refused
returns c = record { returns = rw c.in-Refused.is; leaves = rw c.in-Refused.is }

same_length : tie.Need-shape_of-answer
same_length c = c.tell_circuit.auto.answer

returns-2 : tie.Need-returns-in-Loaded
returns-2 c = record { returns = rw c.in-Loaded.is; leaves = rw c.in-Loaded.is c.tell_circuit.ensures }

pub tell_loaded_spec : {M : Type 1} → statement M
tell_loaded_spec =
    tie.close
    (tie.spec (λ c. search rules) (λ c. search rules) (λ c. search rules) (λ c. search rules) (λ c. search rules) (λ c. search rules) (λ c. search rules) (λ c κs. search rules) returns same_length returns-2)
