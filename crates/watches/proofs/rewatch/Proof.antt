-- `watches::rewatch` meets its contract. Assumes nothing.
use Rattle.watches.specs.Watch as W
use mathlib.Core.Path.{refl}
use borrow.Author.Rules.{rules}
use Rattle.watches.proofs.rewatch.Statement.{statement}
use Rattle.watches.proofs.rewatch.Tie as tie

returns : tie.Need-returns
unfolding W.rewatched
returns c =
    rw (
      ← c.following-next.ensures,
      ← c.link.ensures,
    ) (record { words = c.attach.ensures; state = refl })

pub rewatch_spec : {M : Type 1} → statement M
rewatch_spec = tie.close (tie.spec (λ c κs. search rules) (λ c κs. search rules) (λ c κs. search rules) (λ c. search rules) returns)
