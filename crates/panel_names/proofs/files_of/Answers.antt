-- `panel_names::files_of` meets its contract. Assumes nothing.
use mathlib.Core.Path.{refl, sym, ap, subst}
use Rattle.std.specs.Prelude.{Some}
use Rattle.panel_lines.specs.declared.Task.{Task}
use Rattle.panel_lines.specs.Reading.{PartsInside}
use Rattle.panel_names.specs.Naming.{named_by}
use Rattle.panel_names.proofs.Requests.{requested, unrequested}
use Rattle.panel_names.proofs.files_of.Goals as goal

pub returns-in-Ask : goal.returns-in-Ask
returns-in-Ask c =
    (sym (ap named_by (requested (rw c.in-Some.is at c.read_request.ensures) c.in-Ask.is refl)), tt)

pub returns-in-Load : goal.returns-in-Load
returns-in-Load c = (
  sym (ap named_by (requested (rw c.in-Some.is at c.read_request.ensures) c.in-Load.is refl)),
  subst (λ (t : Task). PartsInside c.args.request.now (Some t)) c.in-Load.is (rw c.in-Some.is at c.read_request.ensures).parts,
)

pub returns-in-Preview : goal.returns-in-Preview
returns-in-Preview c = (
  sym (ap named_by (requested (rw c.in-Some.is at c.read_request.ensures) c.in-Preview.is refl)),
  subst (λ (t : Task). PartsInside c.args.request.now (Some t)) c.in-Preview.is (rw c.in-Some.is at c.read_request.ensures).parts,
)

pub returns-in-Join : goal.returns-in-Join
returns-in-Join c = (
  sym (ap named_by (requested (rw c.in-Some.is at c.read_request.ensures) c.in-Join.is refl)),
  subst (λ (t : Task). PartsInside c.args.request.now (Some t)) c.in-Join.is (rw c.in-Some.is at c.read_request.ensures).parts,
)

pub returns-in-Witness : goal.returns-in-Witness
returns-in-Witness c = (
  sym (ap named_by (requested (rw c.in-Some.is at c.read_request.ensures) c.in-Witness.is refl)),
  subst (λ (t : Task). PartsInside c.args.request.now (Some t)) c.in-Witness.is (rw c.in-Some.is at c.read_request.ensures).parts,
)

pub returns-in_default : goal.returns-in_default
returns-in_default c =
    (sym (ap named_by (unrequested (rw c.in_default.is at c.read_request.ensures))), tt)
