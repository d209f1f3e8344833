-- `settling::follow` meets its contract. Assumes nothing.
use Rattle.settling.specs.Settling as S
use borrow.Author.Rules.{rules}
use Rattle.settling.proofs.follow.Statement.{statement}
use Rattle.settling.proofs.follow.Tie as tie

returns : tie.Need-returns
unfolding S.followed
returns c = rw (← c.field-l.ensures, ← c.successor.ensures) (c.through.ensures)

pub follow_spec : {M : Type 1} → statement M
follow_spec =
    tie.close (tie.spec (λ c κs. search rules) (λ c κs. search rules) (λ c κs. search rules) (λ c. search rules) returns)
