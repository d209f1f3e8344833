-- `interface::yunverok_preview` meets its contract. Assumes nothing.
use mathlib.Core.Path.{refl}
use borrow.Author.Rules.{rules}
use Rattle.call_forms.specs.History.{Returned, Step}
use Rattle.load.specs.Answers.{answered}
use Rattle.interface.proofs.yunverok_preview.Statement.{statement}
use Rattle.interface.proofs.yunverok_preview.Tie as tie

returns : tie.Need-returns
returns c = record { returned = Returned.previewed (answered c.preview.result.answer) c.preview.result.needed; step = Step.previews c.preview.ensures; output = refl; tells = c.tell_previewed.ensures }

pub yunverok_preview_spec : {M : Type 1} → statement M
yunverok_preview_spec =
    tie.close
    (tie.spec (λ c κs. search rules) (λ c κs. search rules) (λ c. search rules) returns)
