-- `panel_session::unread` meets its contract. Assumes nothing.
use mathlib.Core.Path.{refl}
use Rattle.panel_session.proofs.Turns.{answered-alone}
use borrow.Author.Rules.{rules}
use Rattle.panel_session.proofs.unread.Statement.{statement}
use Rattle.panel_session.proofs.unread.Tie as tie

returns : tie.Need-returns
returns c = λ request s out. answered-alone out refl c.missing.ensures

pub unread_spec : {M : Type 1} → statement M
unread_spec = tie.close (tie.spec (λ c κs. search rules) returns)
