-- Clause 12.7: what is left to be printed for a request. Assumes nothing.
use Rattle.std.specs.Prelude.{◌≡◌, Bool, List, ℕ, length}
use Rattle.job.specs.Replies.{Shows}
use Rattle.replies.specs.Reply.{Reply, Fronts}
use Rattle.call_forms.specs.History.{State}
use Rattle.panel_session.specs.Session.{Files, Turn}
use Rattle.panel_session.specs.declared.Response.{Response}

-- a line, and no text after it
pub record LineAlone (r : Response) (line : List ℕ) : Type 0 where
  pub line-is : Shows r.line r.count line
  pub out-is : r.out ≡ 0

-- the line stands at the front of the response's own bytes, the text after it at the front of the output, whose other bytes stay
pub record Answered (request : List ℕ) (files : Files) (s : State) (out : List ℕ) (r : Response) (s' : State) (out' : List ℕ) : Type 0 where
  pub reply : Reply
  pub loaded : Bool
  pub turn : Turn (length out) request files s reply loaded s'
  pub line-is : Shows r.line r.count reply.line
  pub out-is : Fronts reply.out out r.out out'
