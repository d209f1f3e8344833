-- `conflicts::is_full` meets its contract. Assumes nothing.
use Rattle.conflicts.specs.Conflicts as Cf
use mathlib.Core.Path.{refl}
use borrow.Author.Rules.{rules}
use Rattle.conflicts.proofs.is_full.Statement.{statement}
use Rattle.conflicts.proofs.is_full.Tie as tie

returns : tie.Need-returns
unfolding Cf.is_full
returns c = refl

pub is_full_spec : {M : Type 1} → statement M
is_full_spec =
    tie.close
    (tie.spec (λ c. search rules) (λ c. search rules) (λ c. search rules) (λ c. search rules) (λ c. search rules) (λ c. search rules) (λ c. search rules) (λ c. search rules) (λ c. search rules) (λ c. search rules) (λ c. search rules) returns)
