-- `watches::pass` meets its contract. Assumes nothing.
use Rattle.watches.specs.Watch as W
use mathlib.Core.Path.{refl}
use borrow.Author.Rules.{rules}
use Rattle.watches.proofs.pass.Statement.{statement}
use Rattle.watches.proofs.pass.Tie as tie

returns : tie.Need-returns
unfolding W.passed
returns c = rw (← c.following-next.ensures) refl

pub pass_spec : {M : Type 1} → statement M
pass_spec = tie.close (tie.spec (λ c κs. search rules) (λ c. search rules) (λ c. search rules) (λ c. search rules) returns)
