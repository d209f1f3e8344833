-- `interface::yunverok_load` meets its contract. Assumes nothing.
use mathlib.Core.Path.{refl}
use borrow.Author.Rules.{rules}
use Rattle.call_forms.specs.History.{Returned, Step}
use Rattle.load.specs.Answers.{answered}
use Rattle.interface.proofs.yunverok_load.Statement.{statement}
use Rattle.interface.proofs.yunverok_load.Tie as tie

returns : tie.Need-returns
returns c = record { returned = Returned.loaded (answered c.load.result); step = Step.loads c.load.ensures; output = refl; tells = c.tell_loaded.ensures }

pub yunverok_load_spec : {M : Type 1} → statement M
yunverok_load_spec =
    tie.close
    (tie.spec (λ c κs. search rules) (λ c κs. search rules) (λ c. search rules) (λ c. search rules) (λ c. search rules) returns)
