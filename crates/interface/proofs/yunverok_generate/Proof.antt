-- `interface::yunverok_generate` meets its contract. Assumes nothing.
use mathlib.Core.Path.{refl}
use borrow.Author.Rules.{rules}
use Rattle.call_forms.specs.History.{Returned, Step}
use Rattle.generate.specs.Answer.{answered}
use Rattle.interface.proofs.yunverok_generate.Statement.{statement}
use Rattle.interface.proofs.yunverok_generate.Tie as tie

returns : tie.Need-returns
returns c = record { returned = Returned.written (answered c.generate.result) c.generate.new.out; step = Step.generates c.generate.ensures; output = refl; tells = c.tell_generated.ensures }

pub yunverok_generate_spec : {M : Type 1} → statement M
yunverok_generate_spec =
    tie.close
    (tie.spec (λ c κs. search rules) (λ c κs. search rules) (λ c. search rules) (λ c. search rules) returns)
