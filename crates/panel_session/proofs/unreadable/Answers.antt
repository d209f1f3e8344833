-- `panel_session::unreadable` meets its contract. Assumes nothing.
use mathlib.Core.Path.{refl, ap}
use lib.ListN.{length}
use Rattle.panel_session.specs.Session.{Files, request_action}
use Rattle.panel_names.proofs.Requests.{unrequested}
use Rattle.panel_session.proofs.Turns.{answered-alone}
use Rattle.panel_session.proofs.Lacking.{lacks, unnamed}
use Rattle.panel_session.proofs.unreadable.Goals as goal

pub returns-in-Ask : goal.returns-in-Ask
returns-in-Ask c =
    λ s out. absurd (unnamed _ (rw c.in-Some.is at c.read_request.ensures) c.in-Ask.is refl c.requires)

pub returns-in-Load : goal.returns-in-Load
returns-in-Load c =
    lacks _ (rw c.in-Some.is at c.read_request.ensures) c.in-Load.is refl refl c.missing.ensures

pub returns-in-Preview : goal.returns-in-Preview
returns-in-Preview c =
    lacks _ (rw c.in-Some.is at c.read_request.ensures) c.in-Preview.is refl refl c.missing-in-Preview.ensures

pub returns-in-Join : goal.returns-in-Join
returns-in-Join c =
    lacks _ (rw c.in-Some.is at c.read_request.ensures) c.in-Join.is refl refl c.missing-in-Join.ensures

pub returns-in-Witness : goal.returns-in-Witness
returns-in-Witness c =
    lacks _ (rw c.in-Some.is at c.read_request.ensures) c.in-Witness.is refl refl c.missing-in-Witness.ensures

pub returns-in_default : goal.returns-in_default
returns-in_default c =
    λ s out.
    answered-alone out (ap (request_action (length out) Files.missing) (unrequested (rw c.in_default.is at c.read_request.ensures)))
    c.malformed.ensures
