-- `panel_session::respond` meets its contract. Assumes nothing.
use mathlib.Core.Path.{refl, ap}
use mathlib.Core.List.{[]}
use lib.ListN.{length}
use Rattle.panel_session.specs.Session.{Files, request_action}
use Rattle.panel_session.proofs.Turns.{
  query-taken,
  view-taken,
  load-taken,
  preview-taken,
  join-taken,
  answers,
  answered-alone,
}
use Rattle.panel_names.proofs.Requests.{requested, unrequested}
use Rattle.panel_session.proofs.respond.Goals as goal

pub returns-in-Ask : goal.returns-in-Ask
returns-in-Ask c =
    let t = query-taken c.in-Some.asked.user c.in-Ask.q c.query-r.ensures in
    answers (requested (rw c.in-Some.is at c.read_request.ensures) c.in-Ask.is refl) t c.response_of.result c.response_of.ensures.0
    c.response_of.ensures.1 c.response_of.ensures.2

pub returns-in-Load : goal.returns-in-Load
returns-in-Load c =
    let t = load-taken c.in-Some.asked.user c.args.first.now c.load-r.ensures refl in
    answers (requested (rw c.in-Some.is at c.read_request.ensures) c.in-Load.is refl) t c.response_of-in-Load.result c.response_of-in-Load.ensures.0
    c.response_of-in-Load.ensures.1 c.response_of-in-Load.ensures.2

pub returns-in-Preview : goal.returns-in-Preview
returns-in-Preview c =
    let t = preview-taken c.in-Some.asked.user c.args.first.now c.requires.0 c.preview-r.ensures in
    answers (requested (rw c.in-Some.is at c.read_request.ensures) c.in-Preview.is refl) t c.response_of-in-Preview.result c.response_of-in-Preview.ensures.0
    c.response_of-in-Preview.ensures.1 c.response_of-in-Preview.ensures.2

pub returns-in-Join : goal.returns-in-Join
returns-in-Join c =
    let t = join-taken c.in-Some.asked.user [] [] c.args.first.now c.args.second.now c.join-r.ensures refl in
    answers (requested (rw c.in-Some.is at c.read_request.ensures) c.in-Join.is refl) t c.response_of-in-Join.result c.response_of-in-Join.ensures.0
    c.response_of-in-Join.ensures.1 c.response_of-in-Join.ensures.2

pub returns-in-Witness : goal.returns-in-Witness
returns-in-Witness c =
    let t = view-taken c.in-Some.asked.user c.in-Witness.v c.args.first.now c.view-r.ensures in
    answers (requested (rw c.in-Some.is at c.read_request.ensures) c.in-Witness.is refl) t c.response_of-in-Witness.result c.response_of-in-Witness.ensures.0
    c.response_of-in-Witness.ensures.1 c.response_of-in-Witness.ensures.2

pub returns-in_default : goal.returns-in_default
returns-in_default c =
    answered-alone c.args.out.now
    (ap (request_action (length c.args.out.now) (Files.read c.args.first.now c.args.second.now)) (unrequested (rw c.in_default.is at c.read_request.ensures)))
    c.malformed.ensures
