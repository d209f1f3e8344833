-- The state in which sessions start. Assumes nothing.
use Rattle.std.proofs.Common.{refl, rules}
use Rattle.panel_session.specs.Session.{start}
use Rattle.panel_serving.proofs.turning.begun.Statement.{statement}
use Rattle.panel_serving.proofs.turning.begun.Tie as tie

returns : tie.Need-returns
unfolding start
returns c = (refl, refl, refl)

pub begun_spec : {M : Type 1} → statement M
begun_spec =
    tie.close
    (tie.spec returns)
