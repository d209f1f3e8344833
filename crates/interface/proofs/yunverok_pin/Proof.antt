-- `interface::yunverok_pin` meets its contract. Assumes nothing.
use mathlib.Core.Path.{refl}
use borrow.Author.Rules.{rules}
use Rattle.call_forms.specs.History.{Returned, Step}
use Rattle.calls.specs.Answers.{pin_said}
use Rattle.interface.proofs.yunverok_pin.Statement.{statement}
use Rattle.interface.proofs.yunverok_pin.Tie as tie

returns : tie.Need-returns
returns c = record { returned = Returned.pinned (pin_said c.set_pin.result); step = Step.pins c.set_pin.ensures; output = refl; tells = c.tell_pinned.ensures }

pub yunverok_pin_spec : {M : Type 1} → statement M
yunverok_pin_spec =
    tie.close
    (tie.spec (λ c κs. search rules) (λ c κs. search rules) (λ c. search rules) (λ c. search rules) returns)
