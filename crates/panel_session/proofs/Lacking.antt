-- What a request is answered of whose files one cannot be read. Assumes nothing.
use mathlib.Core.Path.{◌≡◌, ap, ◌∙◌}
use mathlib.Core.Bool.{Bool, false, cond}
use mathlib.Core.List.{List, []}
use mathlib.Core.Option.{some}
use Rattle.std.specs.Prelude.{Some}
use Prim.Native.Nat.{ℕ, ◌≤◌}
use native.Mathlib.Omega.{arith}
use lib.Dec.{eqb}
use lib.ListN.{length}
use Rattle.aiger.specs.Text.{bytes}
use Rattle.replies.specs.Refusal.{refusal_text}
use Rattle.call_forms.specs.History.{State}
use Rattle.panel_lines.specs.Grammar.{Command, parse}
use Rattle.panel_lines.specs.Reading.{RequestIs, task_of}
use Rattle.panel_lines.specs.declared.Query.{Query}
use Rattle.panel_lines.specs.declared.Task.{Task}
use Rattle.panel_lines.specs.declared.Request.{Request}
use Rattle.panel_session.specs.Session.{Files, Action, action_of, may_ask, request_action}
use Rattle.panel_names.specs.Naming.{named_by, files_of}
use Rattle.panel_session.specs.Answered.{LineAlone, Answered}
use Rattle.panel_session.specs.declared.Response.{Response}
use Rattle.panel_names.proofs.Requests.{requested}
use Rattle.panel_session.proofs.Turns.{answered-alone}

-- a command that names files
pub lacks : {request : List ℕ} {r : Request} {task : Task} {q : Response} (c : Command) → RequestIs request (parse request) (Some r) → r.task ≡ task
    → task_of request (Some task) ≡ some c → eqb (length (files_of c)) 0 ≡ false → LineAlone q (cond (may_ask r.user c) (bytes "unreadable\n") (refusal_text 18))
    → (s : State) (out : List ℕ) → Answered request Files.missing s out q s out
lacks {r = r} c i e f z y =
    λ s out.
    answered-alone out
    (ap (request_action (length out) Files.missing) (requested i e f)
    ∙ ap
    (λ (b : Bool).
    cond b (action_of (length out) r.user [] [] c) (Action.prints (cond (may_ask r.user c) (bytes "unreadable\n") (refusal_text 18))))
    z)
    y

-- a query names none
pub unnamed : {request : List ℕ} {r : Request} {task : Task} (q : Query) → RequestIs request (parse request) (Some r) → r.task ≡ task
    → task_of request (Some task) ≡ some (Command.query q) → 1 ≤ length (named_by (parse request)) → ⊥
unnamed q i e f l = let z = ap (λ (o : _). length (named_by o)) (requested i e f) in omega (arith, z, l)
