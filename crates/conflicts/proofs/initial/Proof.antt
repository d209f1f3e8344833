-- `conflicts::initial` meets its contract. Assumes nothing.
use mathlib.Core.Path.{refl}
use Rattle.conflicts.proofs.initial.Statement.{statement}
use Rattle.conflicts.proofs.initial.Tie as tie

pub initial_spec : {M : Type 1} → statement M
initial_spec = tie.close (tie.spec (λ c. refl))
