-- Which command a request is, by the task that was read. Assumes nothing.
use mathlib.Core.Path.{◌≡◌, sym, ap, ◌∙◌}
use mathlib.Core.List.{List}
use mathlib.Core.Option.{Option, none, some}
use Rattle.std.specs.Prelude.{Some, None}
use Prim.Native.Nat.{ℕ}
use Rattle.aiger.specs.Text.{◌>>=◌}
use Rattle.panel_lines.specs.Grammar.{Command, parse}
use Rattle.panel_lines.specs.Reading.{RequestIs, task_of}
use Rattle.panel_lines.specs.declared.Task.{Task}
use Rattle.panel_lines.specs.declared.Request.{Request}

-- the command that a request is
pub requested : {request : List ℕ} {task : Task} {r : Request} {c : Command} → RequestIs request (parse request) (Some r) → r.task ≡ task
    → task_of request (Some task) ≡ some c → parse request ≡ some (r.user, c)
requested {request} {r = r} q e f =
    sym q.meaning ∙ ap (λ (o : Option Command). o >>= λ t. some (r.user, t)) (ap (λ (t : Task). task_of request (Some t)) e ∙ f)

pub unrequested : {request : List ℕ} → RequestIs request (parse request) None → parse request ≡ none
unrequested q = sym q.meaning
