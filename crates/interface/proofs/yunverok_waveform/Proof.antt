-- `interface::yunverok_waveform` meets its contract. Assumes nothing.
use mathlib.Core.Path.{refl}
use borrow.Author.Rules.{rules}
use Rattle.call_forms.specs.History.{Returned, Step}
use Rattle.waveform.specs.Answer.{answered}
use Rattle.interface.proofs.yunverok_waveform.Statement.{statement}
use Rattle.interface.proofs.yunverok_waveform.Tie as tie

returns : tie.Need-returns
returns c = record { returned = Returned.written (answered c.waveform.result) c.waveform.new.out; step = Step.waveforms c.waveform.ensures; output = refl; tells = c.tell_dumped.ensures }

pub yunverok_waveform_spec : {M : Type 1} → statement M
yunverok_waveform_spec =
    tie.close
    (tie.spec (λ c κs. search rules) (λ c κs. search rules) (λ c. search rules) (λ c. search rules) returns)
