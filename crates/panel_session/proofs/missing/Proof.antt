-- `panel_session::missing` meets its contract. Assumes nothing.
use mathlib.Core.Path.{refl, ◌∙◌}
use Rattle.replies.proofs.Putting.{placed-fronts}
use Rattle.panel_session.proofs.Turns.{alone-fronts}
use borrow.Author.Rules.{rules}
use Rattle.panel_session.proofs.missing.Statement.{statement}
use Rattle.panel_session.proofs.missing.Tie as tie

returns : tie.Need-returns-then-may
returns c = rw c.if-may.true (alone-fronts _ (placed-fronts c.put-count.ensures) refl refl refl)

returns-2 : tie.Need-returns
returns-2 c =
    rw c.if-may.false (alone-fronts c.response_of.result c.refuse-r.ensures.0 c.response_of.ensures.0 c.response_of.ensures.1
    (c.response_of.ensures.2 ∙ c.refuse-r.ensures.1))

pub missing_spec : {M : Type 1} → statement M
missing_spec =
    tie.close
    (tie.spec (λ c. search rules) (λ c κs. search rules) returns (λ c. search rules) (λ c κs. search rules) (λ c κs. search rules) returns-2)
