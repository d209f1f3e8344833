-- `choices::conclude` meets its contract. Assumes nothing.
use Rattle.choices.specs.Choices as Ch
use mathlib.Core.Path.{refl}
use borrow.Author.Rules.{rules}
use Rattle.choices.proofs.conclude.Statement.{statement}
use Rattle.choices.proofs.conclude.Tie as tie

returns : tie.Need-returns-in-Raised
unfolding Ch.concluded
returns c = rw c.in-Raised.is c.release.ensures

returns-2 : tie.Need-returns-in-NoHit
unfolding Ch.concluded
returns-2 c = rw c.in-NoHit.is (record { words = refl; search = c.end.ensures })

returns-3 : tie.Need-returns-in-Unlearnt
unfolding Ch.concluded
returns-3 c = rw c.in-Unlearnt.is (record { words = refl; search = c.end-in-Unlearnt.ensures })

pub conclude_spec : {M : Type 1} → statement M
conclude_spec =
    tie.close
    (tie.spec (λ c. search rules) (λ c κs. search rules) (λ c. search rules) (λ c κs. search rules) (λ c. search rules) (λ c κs. search rules) (λ c. search rules) returns returns-2 returns-3)
