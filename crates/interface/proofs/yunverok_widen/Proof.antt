-- `interface::yunverok_widen` meets its contract. Assumes nothing.
use mathlib.Core.Path.{refl}
use borrow.Author.Rules.{rules}
use Rattle.call_forms.specs.History.{Returned, Step}
use Rattle.widen.specs.Answer.{answered}
use Rattle.interface.proofs.yunverok_widen.Statement.{statement}
use Rattle.interface.proofs.yunverok_widen.Tie as tie

returns : tie.Need-returns
returns c = record { returned = Returned.written (answered c.widen.result) c.widen.new.out; step = Step.widens c.widen.ensures; output = refl; tells = c.tell_widened.ensures }

pub yunverok_widen_spec : {M : Type 1} → statement M
yunverok_widen_spec =
    tie.close
    (tie.spec (λ c κs. search rules) (λ c κs. search rules) (λ c. search rules) (λ c. search rules) returns)
