-- `panel_session::malformed` meets its contract. Assumes nothing.
use mathlib.Core.Path.{refl}
use Rattle.replies.proofs.Putting.{placed-fronts}
use Rattle.panel_session.proofs.Turns.{alone-fronts}
use borrow.Author.Rules.{rules}
use Rattle.panel_session.proofs.malformed.Statement.{statement}
use Rattle.panel_session.proofs.malformed.Tie as tie

returns : tie.Need-returns
returns c = alone-fronts _ (placed-fronts c.put-count.ensures) refl refl refl

pub malformed_spec : {M : Type 1} → statement M
malformed_spec =
    tie.close (tie.spec (λ c. search rules) (λ c κs. search rules) returns)
