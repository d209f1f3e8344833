-- `replay::demote` meets its contract. Assumes nothing.
use mathlib.Core.Path.{refl}
use borrow.Author.Rules.{rules}
use Rattle.replay.proofs.demote.Statement.{statement}
use Rattle.replay.proofs.demote.Tie as tie

returns : tie.Need-returns-in-All
returns c = rw c.in-All.is refl

returns-2 : tie.Need-returns-in-No
returns-2 c = rw c.in-No.is refl

returns-3 : tie.Need-returns-in-Mixed
returns-3 c = rw c.in-Mixed.is refl

returns-4 : tie.Need-returns-in-Refused
returns-4 c = rw c.in-Refused.is refl

pub demote_spec : {M : Type 1} → statement M
demote_spec =
    tie.close
    (tie.spec (λ c. search rules) (λ c. search rules) (λ c. search rules) (λ c. search rules) returns returns-2 returns-3 returns-4)
