-- `interface::yunverok_write` meets its contract. Assumes nothing.
use mathlib.Core.Path.{refl}
use borrow.Author.Rules.{rules}
use Rattle.call_forms.specs.History.{Returned, Step}
use Rattle.write.specs.Answer.{answered}
use Rattle.interface.proofs.yunverok_write.Statement.{statement}
use Rattle.interface.proofs.yunverok_write.Tie as tie

returns : tie.Need-returns
returns c = record { returned = Returned.written (answered c.write.result) c.write.new.out; step = Step.writes c.write.ensures; output = refl; tells = c.tell_written.ensures }

pub yunverok_write_spec : {M : Type 1} → statement M
yunverok_write_spec =
    tie.close
    (tie.spec (λ c κs. search rules) (λ c κs. search rules) (λ c. search rules) (λ c. search rules) returns)
