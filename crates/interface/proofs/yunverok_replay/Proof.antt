-- `interface::yunverok_replay` meets its contract. Assumes nothing.
use mathlib.Core.Path.{refl}
use borrow.Author.Rules.{rules}
use Rattle.call_forms.specs.History.{Returned, Step}
use Rattle.replay.specs.Answer.{answered}
use Rattle.interface.proofs.yunverok_replay.Statement.{statement}
use Rattle.interface.proofs.yunverok_replay.Tie as tie

returns : tie.Need-returns
returns c = record { returned = Returned.replayed (answered c.replay.result); step = Step.replays c.replay.ensures; output = refl; tells = c.tell_replayed.ensures }

pub yunverok_replay_spec : {M : Type 1} → statement M
yunverok_replay_spec =
    tie.close
    (tie.spec (λ c κs. search rules) (λ c κs. search rules) (λ c. search rules) returns)
