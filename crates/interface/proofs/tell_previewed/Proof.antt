-- `interface::tell_previewed` meets its contract. Assumes nothing.
use mathlib.Core.Path.{refl}
use borrow.Author.Rules.{rules}
use Rattle.interface.proofs.tell_previewed.Statement.{statement}
use Rattle.interface.proofs.tell_previewed.Tie as tie

same_length : tie.Need-shape_of-answer-in-Refused
same_length c = c.tell_unloaded.auto.answer

returns : tie.Need-returns-in-Refused
returns c = rw c.in-Refused.is c.tell_unloaded.ensures

same-length-2 : tie.Need-shape_of-answer-in-Loaded
same-length-2 c = c.tell_circuit.auto.answer

returns-2 : tie.Need-returns-in-Loaded
returns-2 c = record { returns = rw c.in-Loaded.is; leaves = rw c.in-Loaded.is c.tell_circuit.ensures }

pub tell_previewed_spec : {M : Type 1} → statement M
tell_previewed_spec =
    tie.close
    (tie.spec (λ c. search rules) (λ c κs. search rules) (λ c. search rules) (λ c κs. search rules) same_length returns same-length-2 returns-2)
